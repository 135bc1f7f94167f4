-- A record of texts is read back: its fields are what stands between its TABs, and each field is one text.
use Rattle.std.proofs.Common.{◌≡◌, ◌++◌, [], ◌∷◌, ℕ, Bool, true, false, List, Some, map, refl, sym, ap, ◌∙◌}
use Rattle.std.specs.Prelude.{◌==◌, codes, if◌then◌else◌}
use Rattle.std.specs.List.{All, slice_split}
use Rattle.std.specs.Str.{bytes_eq}
use Rattle.std.proofs.lemmas.Bool.{eqb-true}
use Rattle.std.proofs.lemmas.List.{append-nil}
use Rattle.std.proofs.lemmas.List.Elements.{All-append, All-cons, All-nil}
use Rattle.std.proofs.lemmas.List.Splits.{slice_split_at, slice_split_none}
use Rattle.std.proofs.lemmas.Slice.Eq.{bytes_eq-Decides}
use Rattle.pylock_run.specs.Text.Field.{escape_byte, escaped_text, field}
use Rattle.pylock_values.specs.Record.{record_of}

-- ---- no TAB stands in a field

abbrev is_tab : ℕ → Bool
is_tab b = b == 9

abbrev NoTab : ℕ → Type 0
NoTab b = is_tab b ≡ false

two : (b c : ℕ) → NoTab b → NoTab c → All NoTab (b ∷ c ∷ [])
two b c n m = All-cons NoTab b (c ∷ []) n (All-cons NoTab c [] m (All-nil NoTab))

chosen_no_tab : (b : ℕ) (t l r s : Bool) → (b == 9) ≡ t
    → All NoTab (if t then codes "\\t" else if l then codes "\\n" else if r then codes "\\r" else if s then codes "\\\\" else b ∷ [])
chosen_no_tab b true l r s e = two 92 116 refl refl
chosen_no_tab b false true r s e = two 92 110 refl refl
chosen_no_tab b false false true s e = two 92 114 refl refl
chosen_no_tab b false false false true e = two 92 92 refl refl
chosen_no_tab b false false false false e = All-cons NoTab b [] e (All-nil NoTab)

escaped_no_tab : (text : List ℕ) → All NoTab (escaped_text text)
escaped_no_tab [] = All-nil NoTab
escaped_no_tab (b ∷ text) =
    All-append NoTab (escape_byte b) (escaped_text text) (chosen_no_tab b (b == 9) (b == 10) (b == 13) (b == 92) refl) (escaped_no_tab text)

abbrev text_field : List ℕ → List ℕ
text_field text = field (Some text)

field_no_tab_by : (text : List ℕ) (is_dash : Bool) → All NoTab (if is_dash then codes "\\-" else escaped_text text)
field_no_tab_by text true = two 92 45 refl refl
field_no_tab_by text false = escaped_no_tab text

field_no_tab : (text : List ℕ) → All NoTab (text_field text)
field_no_tab text = field_no_tab_by text (bytes_eq text (codes "-"))

-- ---- so the record is cut into its fields

fields_cut : (text : List ℕ) (texts : List (List ℕ)) → slice_split is_tab (record_of (map Some (text ∷ texts))) ≡ map text_field (text ∷ texts)
fields_cut text [] =
    ap (slice_split is_tab) (append-nil (text_field text)) ∙ slice_split_none is_tab (text_field text) (field_no_tab text)
fields_cut text (next ∷ texts) =
    slice_split_at is_tab (text_field text) 9 (record_of (map Some (next ∷ texts))) (field_no_tab text) refl
    ∙ ap (λ (fields : List (List ℕ)). text_field text ∷ fields) (fields_cut next texts)

-- ---- the text of a field

-- the byte that a letter behind a backslash stands for
abbrev meant : ℕ → ℕ
meant c = if c == 116 then 9 else if c == 110 then 10 else if c == 114 then 13 else c

abbrev mutual
  unescaped : List ℕ → List ℕ
  unescaped [] = []
  unescaped (b ∷ rest) = if b == 92 then unescaped_behind rest else b ∷ unescaped rest

  unescaped_behind : List ℕ → List ℕ
  unescaped_behind [] = []
  unescaped_behind (c ∷ rest) = meant c ∷ unescaped rest

chosen_back : (b : ℕ) (rest : List ℕ) (t l r s : Bool) → (b == 9) ≡ t → (b == 10) ≡ l → (b == 13) ≡ r → (b == 92) ≡ s
    → unescaped ((if t then codes "\\t" else if l then codes "\\n" else if r then codes "\\r" else if s then codes "\\\\" else b ∷ []) ++ rest) ≡ b ∷ unescaped rest
chosen_back b rest true l r s e f g h = ap (λ (n : ℕ). n ∷ unescaped rest) (sym (eqb-true b 9 e))
chosen_back b rest false true r s e f g h = ap (λ (n : ℕ). n ∷ unescaped rest) (sym (eqb-true b 10 f))
chosen_back b rest false false true s e f g h = ap (λ (n : ℕ). n ∷ unescaped rest) (sym (eqb-true b 13 g))
chosen_back b rest false false false true e f g h = ap (λ (n : ℕ). n ∷ unescaped rest) (sym (eqb-true b 92 h))
chosen_back b rest false false false false e f g h = rw h refl

escaped_back : (text : List ℕ) → unescaped (escaped_text text) ≡ text
escaped_back [] = refl
escaped_back (b ∷ text) =
    chosen_back b (escaped_text text) (b == 9) (b == 10) (b == 13) (b == 92) refl refl refl refl
    ∙ ap (λ (t : List ℕ). b ∷ t) (escaped_back text)

field_back_by : (text : List ℕ) (is_dash : Bool) → bytes_eq text (codes "-") ≡ is_dash
    → unescaped (if is_dash then codes "\\-" else escaped_text text) ≡ text
field_back_by text true e = sym ((bytes_eq-Decides text (codes "-")).0 e)
field_back_by text false e = escaped_back text

field_back : (text : List ℕ) → unescaped (text_field text) ≡ text
field_back text = field_back_by text (bytes_eq text (codes "-")) refl

fields_back : (texts : List (List ℕ)) → map unescaped (map text_field texts) ≡ texts
fields_back [] = refl
fields_back (text ∷ texts) =
    ap (λ (t : List ℕ). t ∷ map unescaped (map text_field texts)) (field_back text)
    ∙ ap (λ (ts : List (List ℕ)). text ∷ ts) (fields_back texts)

-- ---- the texts of a record

abbrev pub texts_of : List ℕ → List (List ℕ)
texts_of bytes = map unescaped (slice_split is_tab bytes)

pub record_back : (text : List ℕ) (texts : List (List ℕ)) → texts_of (record_of (map Some (text ∷ texts))) ≡ text ∷ texts
record_back text texts = ap (map unescaped) (fields_cut text texts) ∙ fields_back (text ∷ texts)
