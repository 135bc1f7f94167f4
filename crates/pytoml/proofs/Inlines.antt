-- The elements of an array that is one value.
use Rattle.std.proofs.Common.{◌≡◌, ℕ, suc, zero, cond, Bool, true, false, not, ◌&&◌, ◌==◌, List, drop, length, Option, Some, None, refl, sym, ap, subst, ◌∙◌, arith}
use Rattle.std.specs.Prelude.{option_and_then}
use Rattle.std.proofs.lemmas.Bool.{true≢false}
use Rattle.std.proofs.lemmas.Option.{none-some}
use Rattle.toml_parser.specs.Lexical.{Read, first, skip_blank}
use Rattle.toml_parser.specs.Numbers.{unquoted}
use Rattle.toml_parser.specs.Strings.{quoted, starts_string}
use Rattle.toml_parser.specs.declared.scalar.Scalar.{Scalar}
use Rattle.toml_parser.specs.declared.scalar.Scalar.TheVariants.{Boolean, Integer, Float, Datetime}
use Rattle.toml.specs.Data.{Data, Items, no_items, item, Members, push_item, array, string, table}
use Rattle.toml.specs.Parse.{after_element, atom, items, read_map, scalar_data, val}
use Rattle.toml.proofs.Turns.{val_atom, val_open_array, val_open_table}
use Rattle.pytoml.specs.Elements.{has_elements}
use Rattle.pytoml.specs.Inline.{begins_elements}
use Rattle.pytoml.specs.Outline.{AreSome}

pub push_some : (found : Items) (d : Data) → AreSome (push_item found d)
push_some no_items d = tt
push_some (item e es) d = tt

-- a turn over the elements keeps some
turn_some : (val : List ℕ → Read Data) (n : ℕ) (found : Items) (text : List ℕ) (r : Items × List ℕ)
    → ((more : Items) (rest : List ℕ) → AreSome more → items val n more rest ≡ Some r → AreSome r.0) → ((first (skip_blank text) == 93) ≡ true → AreSome found)
    → items val (suc n) found text ≡ Some r → AreSome r.0
unfolding items
turn_some val n found text r keeps ended is = by (first (skip_blank text) == 93) refl is
  where
    found_in : Option (Items × List ℕ) → Items
    found_in None = found
    found_in (Some p) = p.0

    next : (d : Data) (o : Option (List ℕ)) → option_and_then (items val n (push_item found d)) o ≡ Some r → AreSome r.0
    next d None is = absurd (none-some r is)
    next d (Some rest) is = keeps (push_item found d) rest (push_some found d) is

    read : (o : Option (Data × List ℕ)) → option_and_then (λ v. option_and_then (items val n (push_item found v.0)) (after_element 93 v.1)) o ≡ Some r → AreSome r.0
    read None is = absurd (none-some r is)
    read (Some v) is = next v.0 (after_element 93 v.1) is

    by : (b : Bool) → (first (skip_blank text) == 93) ≡ b
        → cond b (Some (found, drop 1 (skip_blank text))) (option_and_then (λ v. option_and_then (items val n (push_item found v.0)) (after_element 93 v.1)) (val (skip_blank text))) ≡ Some r
        → AreSome r.0
    by true closing is = subst (λ o. AreSome (found_in o)) is (ended closing)
    by false closing is = read (val (skip_blank text)) is

none_read : (val : List ℕ → Read Data) (found : Items) (text : List ℕ) (r : Items × List ℕ) → items val 0 found text ≡ Some r → ⊥
unfolding items
none_read val found text r is = none-some r is

keeps_some : (val : List ℕ → Read Data) (n : ℕ) (r : Items × List ℕ) (found : Items) (text : List ℕ) → AreSome found → items val n found text ≡ Some r → AreSome r.0
keeps_some val zero r found text some is = absurd (none_read val found text r is)
keeps_some val (suc n) r found text some is = turn_some val n found text r (keeps_some val n r) (λ _. some) is

-- an array that doesn't end at once has some elements
pub some_read : (val : List ℕ → Read Data) (n : ℕ) (text : List ℕ) (r : Items × List ℕ) → (first (skip_blank text) == 93) ≡ false → items val n no_items text ≡ Some r → AreSome r.0
some_read val zero text r other is = absurd (none_read val no_items text r is)
some_read val (suc n) text r other is =
    turn_some val n no_items text r (keeps_some val n r) (λ closing. absurd (true≢false (sym closing ∙ other))) is

both : (a b : Bool) → (a && not b) ≡ true → (a ≡ true) × (b ≡ false)
both true true is = absurd (true≢false (sym is))
both true false is = (refl, refl)
both false b is = absurd (true≢false (sym is))

-- the array as a value
pub array_read : (s rest : List ℕ) (taken : Items) → begins_elements s ≡ true → items (val 79) (length s) no_items (drop 1 s) ≡ Some (taken, rest)
    → (val 80 s ≡ Some (array taken, rest)) × AreSome taken
array_read s rest taken begins read =
    let (opens, more) = both (first s == 91) (first (skip_blank (drop 1 s)) == 93) begins in
    (val_open_array 80 s (omega arith) opens ∙ rw read, some_read (val 79) (length s) (drop 1 s) (taken, rest) more read)

-- ---- another value

abbrev read_elements : Read Data → Bool
read_elements None = false
read_elements (Some v) = has_elements (Some v.0)

no_elements : (val : List ℕ → Read Data) (n : ℕ) (text : List ℕ) → (first (skip_blank text) == 93) ≡ true → read_elements (read_map array (items val n no_items text)) ≡ false
unfolding items
no_elements val zero text closing = refl
no_elements val (suc n) text closing = rw closing

table_read : (o : Read Members) → read_elements (read_map table o) ≡ false
table_read None = refl
table_read (Some ms) = refl

string_read : (o : Read (List ℕ)) → read_elements (read_map string o) ≡ false
string_read None = refl
string_read (Some s) = refl

scalar_plain : (s : Scalar) → has_elements (Some (scalar_data s)) ≡ false
scalar_plain (Boolean b) = refl
scalar_plain (Integer z) = refl
scalar_plain (Float x) = refl
scalar_plain (Datetime dt) = refl

scalar_read : (o : Read Scalar) → read_elements (read_map scalar_data o) ≡ false
scalar_read None = refl
scalar_read (Some s) = scalar_plain s.0

atom_read : (s : List ℕ) → read_elements (atom s) ≡ false
unfolding atom
atom_read s = by (starts_string s)
  where
    by : (b : Bool) → read_elements (cond b (read_map string (quoted s)) (read_map scalar_data (unquoted s))) ≡ false
    by true = string_read (quoted s)
    by false = scalar_read (unquoted s)

-- a value that doesn't begin as an array with elements is none
pub other_read : (s rest : List ℕ) (d : Data) → begins_elements s ≡ false → val 80 s ≡ Some (d, rest) → has_elements (Some d) ≡ false
other_read s rest d begins read = sym (ap read_elements read) ∙ by (first s == 91) (first s == 123) refl refl
  where
    closing : (b : Bool) → (true && not b) ≡ false → b ≡ true
    closing true is = refl
    closing false is = absurd (true≢false is)

    by : (b c : Bool) → (first s == 91) ≡ b → (first s == 123) ≡ c → read_elements (val 80 s) ≡ false
    by true c opens braces =
        let closes = closing (first (skip_blank (drop 1 s)) == 93) (ap (λ b. b && not (first (skip_blank (drop 1 s)) == 93)) (sym opens) ∙ begins) in
        ap read_elements (val_open_array 80 s (omega arith) opens) ∙ no_elements (val 79) (length s) (drop 1 s) closes
    by false true opens braces = ap read_elements (val_open_table 80 s (omega arith) opens braces) ∙ table_read _
    by false false opens braces = ap read_elements (val_atom 80 s opens braces) ∙ atom_read s
