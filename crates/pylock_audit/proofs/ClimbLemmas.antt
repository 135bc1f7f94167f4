-- The pieces of a path, one after the other.
use denote.Param.Members.{Mut}
use denote.Ref.{Bor}
use Rattle.std.proofs.Common.{◌≡◌, ◌<◌, ◌+◌, ℕ, Bool, List, ◌∷◌, Option, None, Some, drop, length, false, true, refl, sym, ap, ◌∙◌, ◌-◌, ◌==◌, arith, rules, tests}
use Rattle.std.specs.Fn.{CalledAt}
use Rattle.std.specs.Iterator.{Yields}
use Rattle.std.specs.Slice.Iter as slice
use Rattle.std.specs.declared.slice.Split.{Split}
use Rattle.std.proofs.lemmas.Iterator.Consumers.{YieldsList-at, YieldsList-end, YieldsList-turn}
use Rattle.std.proofs.lemmas.Iterator.Splits.{YieldsList-from_slice_split}
use Rattle.std.proofs.lemmas.List.{at_drop_all, at_drop_more}
use Rattle.std.proofs.lemmas.List.Splits.{length-slice_split}
use Rattle.std.proofs.lemmas.List.Sums.{count_by-le-length}
use Rattle.pylock_audit.specs.Unsafe.{climb_out, cuts_path, is_folder_above, is_same_folder, path_pieces}

-- the test of a byte is this one, whenever it is called
abbrev pub Tests : {F : Type 0} → Mut F (Bor ℕ × Unit {0}) Bool → F → (ℕ → Bool) → Type 0
Tests {F = F} g f p = (x : ℕ) (b : Bool) (q : F) → CalledAt g f x b q → (q ≡ f) × (b ≡ p x)

-- the next piece, and those behind it
pub next_piece : {F : Type 0} (g : Mut F (Bor ℕ × Unit {0}) Bool) (windows : Bool) (text : List ℕ) (depth : ℕ) (s t u start : Split ℕ F) (f : F) (xs : List (Bor (List ℕ)))
    → Yields (slice.split_steps g) s xs t → (r : Option (Bor (List ℕ))) (x : Bor (List ℕ)) → r ≡ Some x → slice.split_steps g t r u
    → s ≡ start → slice.split_rest start ≡ text → slice.split_done start ≡ false → slice.split_callee start ≡ f → Tests g f (cuts_path windows)
    → (length xs < length text + 1)
    × (climb_out depth (drop (length xs) (path_pieces windows text)) ≡ climb_out depth (x.now ∷ drop (length xs + 1) (path_pieces windows text)))
next_piece g windows text depth s t u start f xs so_far r x is step begins rest done callee tests =
    let pieces = path_pieces windows text in
    let turn = YieldsList-turn (YieldsList-at begins (YieldsList-from_slice_split g (cuts_path windows) text rest done callee tests)) xs t so_far r u x is step in
    let number = length-slice_split (cuts_path windows) text in
    let cuts = count_by-le-length (cuts_path windows) text in (
      omega (arith, turn.0, number, cuts),
      at_drop_more (climb_out depth) pieces (length xs) x.now turn.0
          ∙ ap (λ p. climb_out depth (p ∷ drop (length xs + 1) pieces)) (sym turn.1),
    )

-- there is none left
pub no_piece : {F : Type 0} (g : Mut F (Bor ℕ × Unit {0}) Bool) (windows : Bool) (text : List ℕ) (depth : ℕ) (s t u start : Split ℕ F) (f : F) (xs : List (Bor (List ℕ)))
    → Yields (slice.split_steps g) s xs t → (r : Option (Bor (List ℕ))) → r ≡ None → slice.split_steps g t r u
    → s ≡ start → slice.split_rest start ≡ text → slice.split_done start ≡ false → slice.split_callee start ≡ f → Tests g f (cuts_path windows)
    → climb_out depth (drop (length xs) (path_pieces windows text)) ≡ false
no_piece g windows text depth s t u start f xs so_far r is step begins rest done callee tests =
    let end = YieldsList-end (YieldsList-at begins (YieldsList-from_slice_split g (cuts_path windows) text rest done callee tests)) xs t so_far r u is step in
    at_drop_all (climb_out depth) (path_pieces windows text) (length xs) (omega (arith, end.1))

-- what the next piece does
pub climbs_first : (depth : ℕ) (piece : List ℕ) (rest : List (List ℕ)) → is_folder_above piece ≡ true → depth ≡ 0
    → climb_out depth (piece ∷ rest) ≡ true
climbs_first depth piece rest above none = rw (above, none) refl

pub climbs : (depth : ℕ) (piece : List ℕ) (rest : List (List ℕ)) → is_folder_above piece ≡ true → (depth ≡ 0 → ⊥)
    → climb_out depth (piece ∷ rest) ≡ climb_out (depth - 1) rest
climbs depth piece rest above some =
    let no : (depth == 0) ≡ false = search (rules, tests) in
    rw (above, no) refl

pub stays : (depth : ℕ) (piece : List ℕ) (rest : List (List ℕ)) → is_folder_above piece ≡ false → is_same_folder piece ≡ true
    → climb_out depth (piece ∷ rest) ≡ climb_out depth rest
stays depth piece rest above same = rw (above, same) refl

pub descends : (depth : ℕ) (piece : List ℕ) (rest : List (List ℕ)) → is_folder_above piece ≡ false → is_same_folder piece ≡ false
    → climb_out depth (piece ∷ rest) ≡ climb_out (depth + 1) rest
descends depth piece rest above same = rw (above, same) refl
