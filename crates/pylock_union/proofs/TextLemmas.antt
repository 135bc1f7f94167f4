-- The pieces of a line.
use Rattle.std.proofs.Common.{◌≡◌, ◌∙◌, ◌+◌, ◌-◌, ℕ, Bool, List, arith, false, length-append, take, [], ◌∷◌, ◌++◌, append-nil, append_assoc, ap, codes, decimal, flat_map, length, sym}
use Rattle.std.proofs.lemmas.List.{length-map, take_at}
use Rattle.std.specs.Prelude.{Some}
use Rattle.pylock_readers.specs.Entry.{EntryValue}
use Rattle.pylock_run.specs.Text.Field.{field, fields_text}
use Rattle.pylock_run.specs.Text.Plan.{source_fields, source_line}
use Rattle.pylock_union.specs.Listed.{LockSourceValue, all_lent, lent}
use Rattle.pylock_union.specs.Text.{listed_line, listed_text}
use Rattle.pylock_union.specs.declared.listed.LockSource.{LockSource}

pub lent_length : (list : List LockSource) → length (all_lent list) ≡ length list
lent_length list = length-map list lent

fields_more : (fields : List (List ℕ)) (more : List ℕ) → fields_text (fields ++ more ∷ []) ≡ fields_text fields ++ (9 ∷ more)
fields_more [] more = append-nil (9 ∷ more)
fields_more (f ∷ fields) more =
    ap (λ rest. (9 ∷ f) ++ rest) (fields_more fields more)
    ∙ sym (append_assoc (9 ∷ f) (fields_text fields) (9 ∷ more))

-- what stands of a line before its end
abbrev pub line_front : ℕ → EntryValue → List (List ℕ) → List ℕ
line_front number entry fields = decimal number ++ fields_text (field (Some entry.name) ∷ field entry.version ∷ fields)

-- a line with one field more
pub line_more : (out : List ℕ) (number : ℕ) (entry : EntryValue) (fields : List (List ℕ)) (more : List ℕ)
    → out ++ line_front number entry fields ++ ((9 ∷ more) ++ codes "\n") ≡ out ++ source_line number entry (fields ++ more ∷ [])
line_more out number entry fields more =
    append_assoc out (line_front number entry fields) ((9 ∷ more) ++ codes "\n")
    ∙ ap (λ t. out ++ t)
    (sym (append_assoc (line_front number entry fields) (9 ∷ more) (codes "\n"))
    ∙ ap (λ t. t ++ codes "\n")
    (append_assoc (decimal number) (fields_text (field (Some entry.name) ∷ field entry.version ∷ fields)) (9 ∷ more)
    ∙ ap (λ t. decimal number ++ t) (sym (fields_more (field (Some entry.name) ∷ field entry.version ∷ fields) more))))

pub line_alone : (one : LockSourceValue) → listed_line false one ≡ source_line one.number one.entry (source_fields one.source)
line_alone one = ap (source_line one.number one.entry) (append-nil (source_fields one.source))

-- what stands before the end of a line, of which the last byte is taken away
pub cut_end : (items line rest : List ℕ) (n : ℕ) → items ≡ line ++ codes "\n" → rest ≡ take (n - 1) items → n ≡ length items → rest ≡ line
cut_end items line rest n is cut all =
    let one : length line ≡ n - 1 = (
    let sum : length items ≡ length line + 1 = ap length is ∙ length-append line (codes "\n") in
    omega arith) in
    cut ∙ ap (take (n - 1)) is ∙ take_at line (codes "\n") (n - 1) one

-- the count, and behind it the lines
pub counted : (out front whole : List ℕ) (count : ℕ) (tells_lock : Bool) (list : List LockSource) → count ≡ length list
    → front ≡ out ++ (codes "files " ++ decimal count ++ codes "\n") → whole ≡ front ++ flat_map (listed_line tells_lock) (all_lent list)
    → whole ≡ out ++ listed_text tells_lock (all_lent list)
counted out front whole count tells_lock list is count_is lines =
    lines ∙ ap (λ t. t ++ flat_map (listed_line tells_lock) (all_lent list)) count_is
    ∙ append_assoc out (codes "files " ++ decimal count ++ codes "\n") (flat_map (listed_line tells_lock) (all_lent list))
    ∙ ap (λ n. out ++ (codes "files " ++ decimal n ++ codes "\n" ++ flat_map (listed_line tells_lock) (all_lent list))) (is ∙ sym (lent_length list))
