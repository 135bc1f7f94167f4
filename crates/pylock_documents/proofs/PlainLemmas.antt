-- A line of JSON of printable ASCII, in texts, lists and objects alone, is read as what it was written of.
use Rattle.std.proofs.Common.{◌≡◌, ◌≤◌, ◌<◌, ◌++◌, ℕ, Bool, true, false, List, [], ◌∷◌, Option, Some, IsUtf8, append-nil, nat_lt, option_and_then, refl, sym, subst, ap, ◌∙◌}
use Rattle.std.proofs.lemmas.Bool.{and_parts, ltb-true}
use Rattle.std.proofs.lemmas.List.Folds.{list_all-append}
use Rattle.std.proofs.lemmas.Str.{IsUtf8-append}
use Rattle.std.specs.List.{list_all}
use Rattle.std.specs.Prelude.{codes}
use Rattle.json.proofs.Printed.Tokens.{tokens-print}
use Rattle.json.proofs.Printed.Trees.{ArePrintable-json_tokens, value-json_tokens}
use Rattle.json.proofs.Printed.Utf8.{IsUtf8-are_ascii}
use Rattle.json.specs.Print.{escape, escape_byte, quoted}
use Rattle.json.specs.Json as json
use Rattle.json.specs.Token.{Token}
use Rattle.json.specs.Tree as tree
use Rattle.serde_json.proofs.Texts.{print-outline}
use Rattle.serde_json.specs.Data as value
use Rattle.serde_json.specs.Data.{Data, Items, Members}
use Rattle.serde_json.specs.Read.{max_depth, of_json, read}
use Rattle.serde_json.specs.Written.{comma_if, compact_text, items_outline, items_text, members_outline, members_text, outline}
use Rattle.pylock_shown.specs.Inner.Printable.{is_printable}
use Rattle.pylock_documents.proofs.ReadLemmas.{all_printable, printable_escape, reads_back}
use Rattle.pylock_documents.proofs.SpellLemmas.{plain_utf8, safe_plain}
use Rattle.pylock_documents.specs.Safe.{IsWritten, ItemsWritten, MembersWritten}

abbrev pub IsPlain : List ℕ → Type 0
IsPlain text = list_all is_printable text ≡ true

pub plain_both : (a b : List ℕ) → IsPlain a → IsPlain b → IsPlain (a ++ b)
plain_both a b p q = list_all-append is_printable a b ∙ rw (p, q) refl

abbrev mutual
  pub IsPlainData : Data → Type 0
  IsPlainData value.null = ⊥
  IsPlainData (value.boolean b) = ⊥
  IsPlainData (value.number n) = ⊥
  IsPlainData (value.string s) = IsPlain s
  IsPlainData (value.array ds) = ArePlainItems ds
  IsPlainData (value.object ms) = ArePlainMembers ms

  pub ArePlainItems : Items → Type 0
  ArePlainItems value.no_items = Unit {0}
  ArePlainItems (value.item d ds) = IsPlainData d × ArePlainItems ds

  pub ArePlainMembers : Members → Type 0
  ArePlainMembers value.no_members = Unit {0}
  ArePlainMembers (value.member k d ms) = IsPlain k × (IsPlainData d × ArePlainMembers ms)

-- ---- its text

escape_plain : (s : List ℕ) → IsPlain s → IsPlain (escape s)
escape_plain [] p = refl
escape_plain (b ∷ bs) p =
    let (here, more) = and_parts (is_printable b) (list_all is_printable bs) p in
    let low : b < 127 = ltb-true b 127 (and_parts (nat_lt 31 b) (nat_lt b 127) here).1 in
    plain_both (escape_byte b) (escape bs) (printable_escape 127 all_printable b low) (escape_plain bs more)

quoted_plain : (s : List ℕ) → IsPlain s → IsPlain (quoted s)
quoted_plain s p = plain_both (escape s) (34 ∷ []) (escape_plain s p) refl

comma_plain : (later : Bool) → IsPlain (comma_if later)
comma_plain true = refl
comma_plain false = refl

mutual
  text_plain : (d : Data) → IsPlainData d → IsPlain (compact_text d)
  text_plain value.null h = absurd h
  text_plain (value.boolean b) h = absurd h
  text_plain (value.number n) h = absurd h
  text_plain (value.string s) h = quoted_plain s h
  text_plain (value.array ds) h = items_plain false ds h
  text_plain (value.object ms) h = members_plain false ms h

  items_plain : (later : Bool) (ds : Items) → ArePlainItems ds → IsPlain (items_text later ds)
  items_plain later value.no_items h = refl
  items_plain later (value.item d ds) h =
      plain_both (comma_if later) (compact_text d ++ items_text true ds) (comma_plain later)
      (plain_both (compact_text d) (items_text true ds) (text_plain d h.0) (items_plain true ds h.1))

  members_plain : (later : Bool) (ms : Members) → ArePlainMembers ms → IsPlain (members_text later ms)
  members_plain later value.no_members h = refl
  members_plain later (value.member k d ms) h =
      plain_both (comma_if later) (quoted k ++ 58 ∷ (compact_text d ++ members_text true ms)) (comma_plain later)
      (plain_both (quoted k) (58 ∷ (compact_text d ++ members_text true ms)) (quoted_plain k h.0)
      (plain_both (compact_text d) (members_text true ms) (text_plain d h.1.0) (members_plain true ms h.1.1)))

pub line_utf8 : (d : Data) → IsPlainData d → IsUtf8 (compact_text d ++ codes "\n")
line_utf8 d h = IsUtf8-append (compact_text d) (codes "\n") (plain_utf8 (compact_text d) (text_plain d h)) (IsUtf8-are_ascii (codes "\n") refl)

-- ---- it is read

mutual
  written : (d : Data) → IsPlainData d → IsWritten d
  written value.null h = absurd h
  written (value.boolean b) h = absurd h
  written (value.number n) h = absurd h
  written (value.string s) h = plain_utf8 s h
  written (value.array ds) h = items_written ds h
  written (value.object ms) h = members_written ms h

  items_written : (ds : Items) → ArePlainItems ds → ItemsWritten ds
  items_written value.no_items h = tt
  items_written (value.item d ds) h = (written d h.0, items_written ds h.1)

  members_written : (ms : Members) → ArePlainMembers ms → MembersWritten ms
  members_written value.no_members h = tt
  members_written (value.member k d ms) h = (plain_utf8 k h.0, written d h.1.0, members_written ms h.1.1)

mutual
  numbers : (d : Data) → IsPlainData d → tree.HasNumbers (outline d)
  numbers value.null h = absurd h
  numbers (value.boolean b) h = absurd h
  numbers (value.number n) h = absurd h
  numbers (value.string s) h = tt
  numbers (value.array ds) h = items_numbers ds h
  numbers (value.object ms) h = members_numbers ms h

  items_numbers : (ds : Items) → ArePlainItems ds → tree.ItemsHaveNumbers (items_outline ds)
  items_numbers value.no_items h = tt
  items_numbers (value.item d ds) h = (numbers d h.0, items_numbers ds h.1)

  members_numbers : (ms : Members) → ArePlainMembers ms → tree.MembersHaveNumbers (members_outline ms)
  members_numbers value.no_members h = tt
  members_numbers (value.member k d ms) h = (numbers d h.1.0, members_numbers ms h.1.1)

abbrev whole : Option (json.Json × List Token) → Option Data
whole o = option_and_then of_json (option_and_then (λ p. json.if_last p.0 p.1) o)

-- where each key of an object stands once, so that its members are those of the value
pub line_reads : (d : Data) → IsPlainData d → of_json (outline d) ≡ Some d → tree.depth (outline d) ≤ max_depth
    → read (compact_text d ++ codes "\n") ≡ Some d
line_reads d h same shallow =
    let stays = safe_plain (compact_text d) (text_plain d h) in
    let ts = tree.json_tokens (outline d) in
    subst (λ t. read (t ++ codes "\n") ≡ read (compact_text d)) stays (reads_back d (written d h))
    ∙ subst (λ t. read t ≡ Some d) (print-outline d)
    (ap whole (ap (json.value max_depth) (tokens-print ts (ArePrintable-json_tokens (outline d) (numbers d h)) ∙ sym (append-nil ts)) ∙ value-json_tokens (outline d) max_depth [] shallow) ∙ same)
