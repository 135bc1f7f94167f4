-- The specifiers of a requirement as they are written.
use Rattle.std.proofs.Common.{◌≡◌, ℕ, true, List, [], drop, take, Option, Some, None, is_some, ok_or, Result, Ok, Err, if◌then◌else◌, ◌∙◌, ap, refl, sym, subst, inl, inr}
use Rattle.std.specs.Prelude.{◌==◌}
use Rattle.pyver_core.specs.Parsed.{parsed_set}
use Rattle.pytext.specs.Results.{◌>>=◌}
use Rattle.pytext.specs.White.{after_white, trim_white}
use Rattle.pyver_core.specs.declared.set.specifier.Specifier.{Specifier}
use Rattle.pytext.proofs.ResultsLemmas.{bind_ok}
use Rattle.pymark_core.specs.Requirement.Reading.{SourceParts, after_byte, cut_around, cut_or_whole, extras_at, marker_in, marker_text_at, name_at, refused_as, requirement_of, set_source, source_at, source_from, url_len, url_source, within_parentheses, written_set_at, written_set_of}
use Rattle.pymark_core.specs.Requirement.Value.{RequirementValue}
use Rattle.pymark_core.specs.Requirement.Written.{IsWrittenSet}
use Rattle.pymark_core.specs.declared.requirement.error.RequirementError.{RequirementError}
use Rattle.pymark_core.specs.declared.requirement.error.RequirementError.TheVariants as refusal
use Rattle.pymark_core.proofs.ChoiceLemmas.{cond_cases}
use Rattle.pymark_core.proofs.Lemmas.Requirement.Sound.{unrefused}

-- a source with a URL has it
url_is_there : (text : List ℕ) (s : SourceParts) → url_source text ≡ Ok s → is_some s.url ≡ true
unfolding url_source
url_is_there text s e =
    let n = url_len text in
    let found : (part : Option (List ℕ)) → SourceParts = λ part. record { set = []; url = Some (take n text); marker = part } in
    elim (cond_cases {X = Result SourceParts RequirementError} (n == 0) (Err refusal.Url) (marker_text_at (after_white (drop n text)) >>= λ part. Ok (found part)) (Ok s) e) [
      | inl w ↦ absurd cc
      | inr w ↦
          let part = bind_ok (marker_text_at (after_white (drop n text))) (λ part. Ok (found part)) s w.1 in
          let is : found part.0 ≡ s = cc in
          ap (λ x. is_some x.url) (sym is)
    ]

-- what is written of a source
source_written : (text : List ℕ) (s : SourceParts) → source_at text ≡ Ok s
    → (written : Option (List ℕ)) × (written_set_at text ≡ Ok written) × IsWrittenSet written s.set s.url
unfolding source_at written_set_at set_source
source_written text s e = by (after_byte 64 text) e
  where
    piece : Option (List ℕ)
    piece = within_parentheses (trim_white (cut_or_whole text (cut_around 59 text)).0)

    inside : Result (Option (List ℕ)) RequirementError
    inside = ok_or piece refusal.Specifier >>= λ inner. Ok (Some inner)

    by : (o : Option (List ℕ)) → source_from text o ≡ Ok s
        → (written : Option (List ℕ)) × ((if is_some o then Ok None else inside) ≡ Ok written) × IsWrittenSet written s.set s.url
    by (Some rest) e = (None, refl, url_is_there (after_white rest) s e)
    by None e =
        let cut = cut_or_whole text (cut_around 59 text) in
        let found : (set : List Specifier) → SourceParts = λ set. record { set = set; url = None; marker = cut.1 } in
        let inner = bind_ok (ok_or piece refusal.Specifier) (λ inner. refused_as refusal.Specifier (parsed_set inner) >>= λ set. Ok (found set)) s e in
        let set = bind_ok (refused_as refusal.Specifier (parsed_set inner.0)) (λ set. Ok (found set)) s inner.2 in
        let is : found set.0 ≡ s = cc in (
          Some inner.0,
          ap (λ r. r >>= λ inner. Ok (Some inner)) inner.1,
          subst (λ (x : SourceParts). (x.url ≡ None) × (parsed_set inner.0 ≡ Ok x.set)) is
              (refl, unrefused refusal.Specifier (parsed_set inner.0) set.0 set.1),
        )

pub written_is_read : (text : List ℕ) (parts : RequirementValue) → requirement_of text ≡ Ok parts
    → (written : Option (List ℕ)) × (written_set_of text ≡ Ok written) × IsWrittenSet written parts.set parts.url
unfolding requirement_of written_set_of
written_is_read text parts e =
    let first = bind_ok (name_at (after_white text)) _ parts e in
    let second = bind_ok (extras_at (after_white first.0.1)) _ parts first.2 in
    let third = bind_ok (source_at (after_white second.0.1)) _ parts second.2 in
    let fourth = bind_ok (marker_in third.0.marker) _ parts third.2 in
    let found : RequirementValue = record { name = first.0.0; extras = second.0.0; set = third.0.set; url = third.0.url; marker = fourth.0 } in
    let is : found ≡ parts = cc in
    let source = source_written (after_white second.0.1) third.0 third.1 in
    let extras_read = ap (λ r. r >>= λ extras. written_set_at (after_white extras.1)) second.1 in
    let name_read = ap (λ r. r >>= λ name. (extras_at (after_white name.1) >>= λ extras. written_set_at (after_white extras.1))) first.1 in
    (source.0, name_read ∙ extras_read ∙ source.1, subst (λ (x : RequirementValue). IsWrittenSet source.0 x.set x.url) is source.2)
