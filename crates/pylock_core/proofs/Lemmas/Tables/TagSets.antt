-- Lemmas on the numbers of tag sets.
use Rattle.std.proofs.Common.{[], ◌≡◌, ℕ, suc, zero, ◌+◌, ◌<◌, ◌∙◌, List, ◌∷◌, ◌++◌, map, length, get_or, set, Option, Some, None, subst, ap, sym, refl, arith}
use Rattle.std.specs.BTreeMap.{btree_map_len, get_by_text}
use Rattle.std.specs.Global.{Global}
use Rattle.std.specs.declared.vec.Vec.{Vec}
use Rattle.std.proofs.lemmas.List.{get_or-set_same, get_or-set_other, get_or_default, length-map, length-set, map-append}
use Rattle.pywheel_core.specs.Wheel.Value.{WheelValue}
use Rattle.pylock_readers.specs.Entry.{EntryValue}
use Rattle.pylock_core.specs.Inner.Tables.Index.{list_at}
use Rattle.pylock_core.specs.Inner.Tables.Names.{IsNumbering}
use Rattle.pylock_core.specs.Inner.Parts.{IsSession}
use Rattle.pylock_core.specs.Inner.Tables.TagSets.{AreNumbers, AreSets, IsNumbered, SetsKept, names_in, set_number, set_text}
use Rattle.pylock_core.specs.declared.session.parts.Parts.{Parts}
use Rattle.pylock_core.specs.declared.session.tables.tag_sets.TagSets.{TagSets}
use Rattle.pylock_core.proofs.Lemmas.Tables.Index.{below_more, set_list}
use Rattle.pylock_core.proofs.Lemmas.Tables.Names.{front, last, length_more, no_number}

-- ---- numbers

pub numbers_kept : (old new : TagSets) (wheels : List (Option WheelValue)) (ns : List ℕ) → SetsKept old new → AreNumbers (set_number old) wheels ns → AreNumbers (set_number new) wheels ns
numbers_kept old new wheels ns kept are = record {
  long = are.long;
  each = λ k within. kept.numbers (set_text (get_or wheels k None)) (get_or ns k 0) (are.each k within);
}

pub sets_kept : (old new : TagSets) (es : List (Option EntryValue)) → SetsKept old new → new.of_entries ≡ old.of_entries → AreSets old es → AreSets new es
sets_kept old new es kept lists are = record {
  is = kept.is;
  long = ap (λ (v : Vec (Vec ℕ Global) Global). length v.items) lists ∙ are.long;
  each = λ k. numbers_kept old new (names_in (get_or es k None)) (list_at new.of_entries.items k) kept
      (subst (AreNumbers (set_number old) (names_in (get_or es k None))) (sym (ap (λ (v : Vec (Vec ℕ Global) Global). list_at v.items k) lists)) (are.each k));
}

-- a session with other tag sets of the same entries
pub session_with : (p : Parts) (sets : TagSets) → AreSets sets p.entries.items → IsSession p → IsSession (record p { sets = sets })
session_with p sets are s = record {
  few = s.few;
  named = s.named;
  judged = s.judged;
  head = s.head;
  names = s.names;
  members = s.members;
  index = s.index;
  living = s.living;
  sets = are;
  conditions = s.conditions;
}

pub session_sets : (p : Parts) (sets : TagSets) → SetsKept p.sets sets → sets.of_entries ≡ p.sets.of_entries → IsSession p → IsSession (record p { sets = sets })
session_sets p sets kept lists s = session_with p sets (sets_kept p.sets sets p.entries.items kept lists s.sets) s

-- the numbers of one more wheel
pub numbers_more : (old new : TagSets) (wheels : List (Option WheelValue)) (ns more : List ℕ) (i n : ℕ) (wheel : Option WheelValue) → SetsKept old new
    → ((k : ℕ) → k < i → set_number old (set_text (get_or wheels k None)) ≡ Some (get_or ns k 0)) → length ns ≡ i → i < length wheels
    → wheel ≡ get_or wheels i wheel → set_number new (set_text wheel) ≡ Some n → more ≡ ns ++ n ∷ []
    → (k : ℕ) → k < i + 1 → set_number new (set_text (get_or wheels k None)) ≡ Some (get_or more k 0)
numbers_more old new wheels ns more i n wheel kept before long within here found made = λ k below. below_more P i k below
    (λ j less. kept.numbers (set_text (get_or wheels j None)) (get_or ns j 0) (before j less)
    ∙ ap Some (sym (ap (λ xs. get_or xs j 0) made ∙ front ns n 0 j (omega (arith, less, long)))))
    (ap (λ w. set_number new (set_text w)) (sym (here ∙ get_or_default wheels i wheel None within)) ∙ found
    ∙ ap Some (sym (ap (λ xs. get_or xs i 0) made ∙ last ns n 0 i (sym long))))
  where
    P : ℕ → Type 0
    P k = set_number new (set_text (get_or wheels k None)) ≡ Some (get_or more k 0)

-- each set keeps its number where all numbers stay
pub same_numbers : (old new : TagSets) → new.numbers ≡ old.numbers → IsNumbered old → IsNumbered new
same_numbers old new same is = subst (λ ns. IsNumbering (get_by_text ns) (btree_map_len ns)) (sym same) is

-- what is written at a place
pub sets_written : (sets new : TagSets) (v : Vec ℕ Global) (es : List (Option EntryValue)) (place : ℕ) (e : Option EntryValue)
    → AreSets sets es → place < length es → AreNumbers (set_number sets) (names_in e) v.items → new.numbers ≡ sets.numbers
    → new.of_entries.items ≡ set sets.of_entries.items place v → AreSets new (set es place e)
sets_written sets new v es place e are within of same made = record {
  is = same_numbers sets new same are.is;
  long = ap length made ∙ length-set sets.of_entries.items place v ∙ are.long ∙ sym (length-set es place e);
  each = λ k.
      let names : List (Option WheelValue) = names_in (get_or (set es place e) k None) in
      subst (λ ns. AreNumbers (get_by_text ns) names (list_at new.of_entries.items k)) (sym same)
      (subst (λ (ls : List (Vec ℕ Global)). AreNumbers (set_number sets) names (list_at ls k)) (sym made)
      (set_list (AreNumbers (set_number sets) names) sets.of_entries.items place k v (omega (arith, within, are.long))
      (λ same. subst (λ (o : Option EntryValue). AreNumbers (set_number sets) (names_in o) v.items) (sym (ap (λ j. get_or (set es place e) j None) same ∙ get_or-set_same es place e None within)) of)
      (λ ne. subst (λ (o : Option EntryValue). AreNumbers (set_number sets) (names_in o) (list_at sets.of_entries.items k)) (sym (get_or-set_other es place k e None ne)) (are.each k))));
}

-- no wheels have no numbers
pub no_numbers : (number : List ℕ → Option ℕ) (ns : List ℕ) → ns ≡ [] → AreNumbers number [] ns
no_numbers number ns none = record { long = ap length none; each = λ k within. absurd (omega arith) }

-- what holds of the pairs of two lists, and of one more pair
more_at : {X Y : Type 0} (P : X → Y → Type 0) (xs : List X) (ys : List Y) (x c : X) (y d : Y) → length ys ≡ length xs → P x y → P c d
    → ((k : ℕ) → P (get_or xs k c) (get_or ys k d)) → (k : ℕ) → P (get_or (xs ++ x ∷ []) k c) (get_or (ys ++ y ∷ []) k d)
more_at P [] [] x c y d long here past each zero = here
more_at P [] [] x c y d long here past each (suc k) = past
more_at P [] (b ∷ ys) x c y d long here past each k = absurd (omega (arith, long))
more_at P (a ∷ xs) [] x c y d long here past each k = absurd (omega (arith, long))
more_at P (a ∷ xs) (b ∷ ys) x c y d long here past each zero = each zero
more_at P (a ∷ xs) (b ∷ ys) x c y d long here past each (suc k) = more_at P xs ys x c y d (omega (arith, long)) here past (λ j. each (suc j)) k

-- one more entry
pub sets_more : (sets new : TagSets) (v : Vec ℕ Global) (es : List (Option EntryValue)) (e : Option EntryValue) → AreSets sets es
    → AreNumbers (set_number sets) (names_in e) v.items → new.numbers ≡ sets.numbers → new.of_entries.items ≡ sets.of_entries.items ++ v ∷ []
    → AreSets new (es ++ e ∷ [])
sets_more sets new v es e are of same made = record {
  is = same_numbers sets new same are.is;
  long = ap length made ∙ length_more sets.of_entries.items v ∙ ap (λ n. n + 1) are.long ∙ sym (length_more es e);
  each = λ k.
      let items : Vec ℕ Global → List ℕ = λ list. list.items in
      let names : List (Option WheelValue) = names_in (get_or (es ++ e ∷ []) k None) in
      let long : length (map items sets.of_entries.items) ≡ length es = length-map sets.of_entries.items items ∙ are.long in
      subst (λ ns. AreNumbers (get_by_text ns) names (list_at new.of_entries.items k)) (sym same)
      (subst (AreNumbers (set_number sets) names) (sym (ap (λ (ls : List (Vec ℕ Global)). list_at ls k) made ∙ ap (λ (ls : List (List ℕ)). get_or ls k []) (map-append items sets.of_entries.items (v ∷ []))))
      (more_at (λ o ns. AreNumbers (set_number sets) (names_in o) ns) es (map items sets.of_entries.items) e None v.items [] long of (no_numbers (set_number sets) [] refl) are.each k));
}

-- a place for one more entry
pub sets_wider : (sets : TagSets) (lists : Vec (Vec ℕ Global) Global) (v : Vec ℕ Global) (es : List (Option EntryValue)) → AreSets sets es
    → lists.items ≡ sets.of_entries.items ++ v ∷ [] → v.items ≡ [] → AreSets (record sets { of_entries = lists }) (es ++ None ∷ [])
sets_wider sets lists v es are made none = sets_more sets (record sets { of_entries = lists }) v es None are (no_numbers (set_number sets) v.items none) refl made

-- no entries
pub no_sets : (sets : TagSets) → sets.numbers.entries ≡ [] → sets.of_entries.items ≡ [] → AreSets sets []
no_sets sets none empty = record {
  is = record {
    below = λ set n is. no_number (set_number sets set) n (absent set) is;
    apart = λ one other n is _. no_number (set_number sets one) n (absent one) is;
  };
  long = ap length empty;
  each = λ k. subst (λ (ls : List (Vec ℕ Global)). AreNumbers (set_number sets) [] (list_at ls k)) (sym empty) (no_numbers (set_number sets) [] refl);
}
  where
    absent : (set : List ℕ) → set_number sets set ≡ None
    absent set = rw none refl
