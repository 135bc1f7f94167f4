-- JSON in which no character is to be escaped.
use Rattle.std.proofs.Common.{◌≡◌, ◌∙◌, ◌++◌, ℕ, false, List, [], ◌∷◌, ap₂, flat_map, refl, sym, String}
use Rattle.std.proofs.lemmas.Bool.{or_parts}
use Rattle.std.proofs.lemmas.Str.{IsUtf8-string_bytes, encodes-chars}
use Rattle.std.specs.List.{list_any}
use Rattle.std.specs.Str.{chars}
use Rattle.std.specs.String.{string_bytes}
use Rattle.std.specs.declared.alloc.Global.{Global}
use lib.Utf8.{encodes}
use Rattle.pylock_shown.specs.Visible.{is_control}
use Rattle.pylock_documents.specs.Safe.{safe_character, safe_json}

pub spelled : (cs : List ℕ) → list_any is_control cs ≡ false → flat_map safe_character cs ≡ encodes cs
spelled [] none = refl
spelled (c ∷ cs) none =
    let (here, more) = or_parts (is_control c) (list_any is_control cs) none in
    ap₂ (λ a b. a ++ b) (rw here refl) (spelled cs more)

-- it stays as it is
pub stays : (text : String Global) → list_any is_control (chars (string_bytes text)) ≡ false → string_bytes text ≡ safe_json (string_bytes text)
stays text none =
    sym (spelled (chars (string_bytes text)) none ∙ encodes-chars (string_bytes text) (IsUtf8-string_bytes text))
