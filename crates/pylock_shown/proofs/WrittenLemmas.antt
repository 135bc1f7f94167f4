-- What a loop over the pieces of a text has written so far.
use Rattle.std.proofs.Common.{◌≡◌, ℕ, List, [], ◌∷◌, ◌++◌, Some, None, refl, subst}
use Rattle.std.proofs.Output.{has_written_append, writes_in_calls_nil}
use Rattle.std.specs.Fmt.{HasWritten, IsPlainFormatter, WritesOnOk}
use Rattle.std.proofs.Common.{Result}
use Rattle.std.specs.declared.fmt.Error.{Error}
use Rattle.std.specs.declared.fmt.Formatter.{Formatter}
use Rattle.pywheel_core.specs.Texts.{cut_at}
use Rattle.pylock_shown.proofs.PieceLemmas.{each_shown, shown_last, shown_more}

-- what was written, with what is left as it is shown, is the whole as it is shown
abbrev pub WrittenSoFar : {W : Type 0} → (W → List ℕ → W → Type 0) → (List ℕ → List ℕ) → Formatter W → Formatter W → List ℕ → List ℕ → Type 0
WrittenSoFar took shown f g left whole =
    IsPlainFormatter f → (done : List ℕ) × HasWritten took f done g × (done ++ shown left ≡ shown whole)

module _ {W : Type 0} (took : W → List ℕ → W → Type 0) where
  -- nothing was written
  pub begun : (shown : List ℕ → List ℕ) (f : Formatter W) (text : List ℕ) → WrittenSoFar took shown f f text text
  begun shown f text = λ plain. ([], record { wrote = writes_in_calls_nil took f.writer; plain = plain }, refl)

  -- one piece more, and the byte behind it
  pub written_more : (c : ℕ) (shown : List ℕ → List ℕ) (f g h i : Formatter W) (s x y whole : List ℕ) → cut_at c s ≡ Some (x, y)
      → WrittenSoFar took (each_shown c shown) f g s whole
      → (IsPlainFormatter g → HasWritten took g (shown x) h) → (IsPlainFormatter h → HasWritten took h (c ∷ []) i)
      → WrittenSoFar took (each_shown c shown) f i y whole
  written_more c shown f g h i s x y whole cut so_far piece mark = λ plain.
      let before = so_far plain in
      let then = piece before.1.plain in
      let all = has_written_append took f before.0 g (shown x) h before.1 then in (
        (before.0 ++ shown x) ++ (c ∷ []),
        has_written_append took f (before.0 ++ shown x) h (c ∷ []) i all (mark then.plain),
        shown_more c shown before.0 s x y (each_shown c shown whole) cut before.2,
      )

  -- the last piece
  pub written_last : (c : ℕ) (shown : List ℕ → List ℕ) (f g h : Formatter W) (s whole : List ℕ) (r : Result (Unit {0}) Error) → cut_at c s ≡ None
      → WrittenSoFar took (each_shown c shown) f g s whole → WritesOnOk took g r (shown s) h
      → WritesOnOk took f r (each_shown c shown whole) h
  written_last c shown f g h s whole r cut so_far piece = λ plain ok.
      let before = so_far plain in
      subst (λ text. HasWritten took f text h) (shown_last c shown before.0 s (each_shown c shown whole) cut before.2)
      (has_written_append took f before.0 g (shown s) h before.1 (piece before.1.plain ok))
