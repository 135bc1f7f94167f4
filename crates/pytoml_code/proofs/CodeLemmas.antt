-- Codes in front of other bytes: where the whole is the same, so are the values.
use Rattle.std.proofs.Common.{◌≡◌, ◌∙◌, ◌++◌, ℕ, Bool, true, false, codes, List, [], ◌∷◌, refl, sym, ap, arith, append-nil}
use Rattle.toml.specs.Data.{Data, string, integer, float, boolean, datetime, array, table, Items, no_items, item, Members, no_members, member}
use Rattle.pytoml_code.specs.Code.{before_item, before_member, code, items_code, members_code, table_end}
use Rattle.pytoml_code.specs.Proper.{AreProper, HasProper, IsProper}
use Rattle.pytoml_code.specs.Text.{key_code}
use Rattle.pytoml_code.proofs.ScalarLemmas.{datetime_parts, float_parts, front_parts, integer_parts}
use Rattle.pytoml_code.proofs.WordLemmas.{cons_parts, joined-3, joined-5, key_parts, quoted_parts}

mutual
  pub code_parts : (d e : Data) (s t : List ℕ) → IsProper d → IsProper e → code d ++ s ≡ code e ++ t → (d ≡ e) × (s ≡ t)
  code_parts (string a) (string b) s t p q h = let parts = quoted_parts a b s t h in (ap string parts.0, parts.1)
  code_parts (string a) (integer b) s t p q h = let heads = (cons_parts 34 2 _ _ h).0 in absurd (omega arith)
  code_parts (string a) (float b) s t p q h = let heads = (cons_parts 34 3 _ _ h).0 in absurd (omega arith)
  code_parts (string a) (boolean true) s t p q h = let heads = (cons_parts 34 4 _ _ h).0 in absurd (omega arith)
  code_parts (string a) (boolean false) s t p q h = let heads = (cons_parts 34 5 _ _ h).0 in absurd (omega arith)
  code_parts (string a) (datetime b) s t p q h = let heads = (cons_parts 34 6 _ _ h).0 in absurd (omega arith)
  code_parts (string a) (array b) s t p q h = let heads = (cons_parts 34 91 _ _ h).0 in absurd (omega arith)
  code_parts (string a) (table b) s t p q h = let heads = (cons_parts 34 123 _ _ h).0 in absurd (omega arith)
  code_parts (integer a) (string b) s t p q h = let heads = (cons_parts 2 34 _ _ h).0 in absurd (omega arith)
  code_parts (integer a) (integer b) s t p q h = let parts = integer_parts a b s t p q (cons_parts 2 2 _ _ h).1 in (ap integer parts.0, parts.1)
  code_parts (integer a) (float b) s t p q h = let heads = (cons_parts 2 3 _ _ h).0 in absurd (omega arith)
  code_parts (integer a) (boolean true) s t p q h = let heads = (cons_parts 2 4 _ _ h).0 in absurd (omega arith)
  code_parts (integer a) (boolean false) s t p q h = let heads = (cons_parts 2 5 _ _ h).0 in absurd (omega arith)
  code_parts (integer a) (datetime b) s t p q h = let heads = (cons_parts 2 6 _ _ h).0 in absurd (omega arith)
  code_parts (integer a) (array b) s t p q h = let heads = (cons_parts 2 91 _ _ h).0 in absurd (omega arith)
  code_parts (integer a) (table b) s t p q h = let heads = (cons_parts 2 123 _ _ h).0 in absurd (omega arith)
  code_parts (float a) (string b) s t p q h = let heads = (cons_parts 3 34 _ _ h).0 in absurd (omega arith)
  code_parts (float a) (integer b) s t p q h = let heads = (cons_parts 3 2 _ _ h).0 in absurd (omega arith)
  code_parts (float a) (float b) s t p q h = let parts = float_parts a b s t p q (cons_parts 3 3 _ _ h).1 in (ap float parts.0, parts.1)
  code_parts (float a) (boolean true) s t p q h = let heads = (cons_parts 3 4 _ _ h).0 in absurd (omega arith)
  code_parts (float a) (boolean false) s t p q h = let heads = (cons_parts 3 5 _ _ h).0 in absurd (omega arith)
  code_parts (float a) (datetime b) s t p q h = let heads = (cons_parts 3 6 _ _ h).0 in absurd (omega arith)
  code_parts (float a) (array b) s t p q h = let heads = (cons_parts 3 91 _ _ h).0 in absurd (omega arith)
  code_parts (float a) (table b) s t p q h = let heads = (cons_parts 3 123 _ _ h).0 in absurd (omega arith)
  code_parts (boolean true) (string b) s t p q h = let heads = (cons_parts 4 34 _ _ h).0 in absurd (omega arith)
  code_parts (boolean true) (integer b) s t p q h = let heads = (cons_parts 4 2 _ _ h).0 in absurd (omega arith)
  code_parts (boolean true) (float b) s t p q h = let heads = (cons_parts 4 3 _ _ h).0 in absurd (omega arith)
  code_parts (boolean true) (boolean true) s t p q h = (refl, front_parts (4 ∷ codes "true") s t h)
  code_parts (boolean true) (boolean false) s t p q h = let heads = (cons_parts 4 5 _ _ h).0 in absurd (omega arith)
  code_parts (boolean true) (datetime b) s t p q h = let heads = (cons_parts 4 6 _ _ h).0 in absurd (omega arith)
  code_parts (boolean true) (array b) s t p q h = let heads = (cons_parts 4 91 _ _ h).0 in absurd (omega arith)
  code_parts (boolean true) (table b) s t p q h = let heads = (cons_parts 4 123 _ _ h).0 in absurd (omega arith)
  code_parts (boolean false) (string b) s t p q h = let heads = (cons_parts 5 34 _ _ h).0 in absurd (omega arith)
  code_parts (boolean false) (integer b) s t p q h = let heads = (cons_parts 5 2 _ _ h).0 in absurd (omega arith)
  code_parts (boolean false) (float b) s t p q h = let heads = (cons_parts 5 3 _ _ h).0 in absurd (omega arith)
  code_parts (boolean false) (boolean true) s t p q h = let heads = (cons_parts 5 4 _ _ h).0 in absurd (omega arith)
  code_parts (boolean false) (boolean false) s t p q h = (refl, front_parts (5 ∷ codes "false") s t h)
  code_parts (boolean false) (datetime b) s t p q h = let heads = (cons_parts 5 6 _ _ h).0 in absurd (omega arith)
  code_parts (boolean false) (array b) s t p q h = let heads = (cons_parts 5 91 _ _ h).0 in absurd (omega arith)
  code_parts (boolean false) (table b) s t p q h = let heads = (cons_parts 5 123 _ _ h).0 in absurd (omega arith)
  code_parts (datetime a) (string b) s t p q h = let heads = (cons_parts 6 34 _ _ h).0 in absurd (omega arith)
  code_parts (datetime a) (integer b) s t p q h = let heads = (cons_parts 6 2 _ _ h).0 in absurd (omega arith)
  code_parts (datetime a) (float b) s t p q h = let heads = (cons_parts 6 3 _ _ h).0 in absurd (omega arith)
  code_parts (datetime a) (boolean true) s t p q h = let heads = (cons_parts 6 4 _ _ h).0 in absurd (omega arith)
  code_parts (datetime a) (boolean false) s t p q h = let heads = (cons_parts 6 5 _ _ h).0 in absurd (omega arith)
  code_parts (datetime a) (datetime b) s t p q h = let parts = datetime_parts a b s t p q (cons_parts 6 6 _ _ h).1 in (ap datetime parts.0, parts.1)
  code_parts (datetime a) (array b) s t p q h = let heads = (cons_parts 6 91 _ _ h).0 in absurd (omega arith)
  code_parts (datetime a) (table b) s t p q h = let heads = (cons_parts 6 123 _ _ h).0 in absurd (omega arith)
  code_parts (array a) (string b) s t p q h = let heads = (cons_parts 91 34 _ _ h).0 in absurd (omega arith)
  code_parts (array a) (integer b) s t p q h = let heads = (cons_parts 91 2 _ _ h).0 in absurd (omega arith)
  code_parts (array a) (float b) s t p q h = let heads = (cons_parts 91 3 _ _ h).0 in absurd (omega arith)
  code_parts (array a) (boolean true) s t p q h = let heads = (cons_parts 91 4 _ _ h).0 in absurd (omega arith)
  code_parts (array a) (boolean false) s t p q h = let heads = (cons_parts 91 5 _ _ h).0 in absurd (omega arith)
  code_parts (array a) (datetime b) s t p q h = let heads = (cons_parts 91 6 _ _ h).0 in absurd (omega arith)
  code_parts (array a) (array b) s t p q h = let parts = items_parts true a b s t p q (cons_parts 91 91 _ _ h).1 in (ap array parts.0, parts.1)
  code_parts (array a) (table b) s t p q h = let heads = (cons_parts 91 123 _ _ h).0 in absurd (omega arith)
  code_parts (table a) (string b) s t p q h = let heads = (cons_parts 123 34 _ _ h).0 in absurd (omega arith)
  code_parts (table a) (integer b) s t p q h = let heads = (cons_parts 123 2 _ _ h).0 in absurd (omega arith)
  code_parts (table a) (float b) s t p q h = let heads = (cons_parts 123 3 _ _ h).0 in absurd (omega arith)
  code_parts (table a) (boolean true) s t p q h = let heads = (cons_parts 123 4 _ _ h).0 in absurd (omega arith)
  code_parts (table a) (boolean false) s t p q h = let heads = (cons_parts 123 5 _ _ h).0 in absurd (omega arith)
  code_parts (table a) (datetime b) s t p q h = let heads = (cons_parts 123 6 _ _ h).0 in absurd (omega arith)
  code_parts (table a) (array b) s t p q h = let heads = (cons_parts 123 91 _ _ h).0 in absurd (omega arith)
  code_parts (table a) (table b) s t p q h = let parts = members_parts true a b s t p q (cons_parts 123 123 _ _ h).1 in (ap table parts.0, parts.1)

  items_parts : (is_first : Bool) (ds es : Items) (s t : List ℕ) → AreProper ds → AreProper es → items_code is_first ds ++ s ≡ items_code is_first es ++ t → (ds ≡ es) × (s ≡ t)
  items_parts is_first no_items no_items s t p q h = (refl, front_parts (1 ∷ codes "]") s t h)
  items_parts is_first no_items (item e es) s t p q h = let heads = (cons_parts 1 2 _ _ h).0 in absurd (omega arith)
  items_parts is_first (item d ds) no_items s t p q h = let heads = (cons_parts 2 1 _ _ h).0 in absurd (omega arith)
  items_parts is_first (item d ds) (item e es) s t p q h =
      let front = 2 ∷ before_item is_first in
      let flat = sym (joined-3 front (code d) (items_code false ds) s) ∙ h ∙ joined-3 front (code e) (items_code false es) t in
      let one = code_parts d e (items_code false ds ++ s) (items_code false es ++ t) p.0 q.0 (front_parts (2 ∷ before_item is_first) _ _ flat) in
      let more = items_parts false ds es s t p.1 q.1 one.1 in
      (λ i. item (one.0 i) (more.0 i), more.1)

  members_parts : (is_first : Bool) (ds es : Members) (s t : List ℕ) → HasProper ds → HasProper es → members_code is_first ds ++ s ≡ members_code is_first es ++ t → (ds ≡ es) × (s ≡ t)
  members_parts is_first no_members no_members s t p q h = (refl, front_parts (1 ∷ table_end is_first) s t h)
  members_parts is_first no_members (member l e es) s t p q h = let heads = (cons_parts 1 2 _ _ h).0 in absurd (omega arith)
  members_parts is_first (member k d ds) no_members s t p q h = let heads = (cons_parts 2 1 _ _ h).0 in absurd (omega arith)
  members_parts is_first (member k d ds) (member l e es) s t p q h =
      let front = 2 ∷ before_member is_first in
      let flat = sym (joined-5 front (key_code k) (codes " = ") (code d) (members_code false ds) s) ∙ h ∙ joined-5 front (key_code l) (codes " = ") (code e) (members_code false es) t in
      let key = key_parts k l (codes " = " ++ (code d ++ (members_code false ds ++ s))) (codes " = " ++ (code e ++ (members_code false es ++ t))) (front_parts (2 ∷ before_member is_first) _ _ flat) in
      let one = code_parts d e (members_code false ds ++ s) (members_code false es ++ t) p.1 q.1 (front_parts (codes " = ") _ _ key.1) in
      let more = members_parts false ds es s t p.2 q.2 one.1 in
      (λ i. member (key.0 i) (one.0 i) (more.0 i), more.1)

pub equal_codes : (d e : Data) → IsProper d → IsProper e → code d ≡ code e → d ≡ e
equal_codes d e p q h = (code_parts d e [] [] p q (append-nil (code d) ∙ h ∙ sym (append-nil (code e)))).0
