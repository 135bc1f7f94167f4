-- The advisories of files, of one more of them.
use Rattle.std.proofs.Common.{◌≡◌, ◌∙◌, ◌+◌, ◌<◌, ◌≤◌, ℕ, List, [], ◌∷◌, Result, Ok, Err, add-one, ap, drop, drop-cons, get_or, length, refl}
use Rattle.std.proofs.Math.ListN.{drop_of_length-le}
use Rattle.std.specs.Result.{result_map_both}
use Rattle.pytext.specs.Results.{◌>>=◌}
use Rattle.pylock_advisories.specs.Advisory.{AdvisoryValue}
use Rattle.pylock_advisories.specs.File.{advisories_of, read_more}
use Rattle.pylock_advisories.specs.declared.error.AdvisoriesError.{AdvisoriesError}
use Rattle.pylock_program.specs.Audit.{advisories_from}
use Rattle.pylock_program.specs.Inner.Audit.{file_bytes}
use Rattle.pylock_program.specs.declared.file.FileBytes.{FileBytes}
use Rattle.pylock_program.specs.declared.refusal.Cause.{Cause}
use Rattle.pylock_program.specs.declared.refusal.Cause.TheVariants as cause

pub first_left : (files : List FileBytes) (i : ℕ) (d : FileBytes) → i < length files → file_bytes (drop i files) ≡ (get_or files i d).bytes.items ∷ file_bytes (drop (i + 1) files)
first_left files i d within = rw add-one (ap file_bytes (drop-cons files i d within))

module _ (files : List FileBytes) (i : ℕ) (d : FileBytes) (before : List AdvisoryValue) (within : i < length files) where
  abbrev from : Result (List AdvisoryValue) AdvisoriesError → Result (List AdvisoryValue) Cause
  from read = result_map_both (λ all. all) (cause.Advisories (i + 1)) read >>= (λ all. advisories_from all (i + 1 + 1) (file_bytes (drop (i + 1) files)))

  starts : advisories_from before (i + 1) (file_bytes (drop i files)) ≡ from (read_more before (advisories_of (get_or files i d).bytes.items))
  unfolding advisories_from
  starts = ap (advisories_from before (i + 1)) (first_left files i d within)

  pub one_file : (after : List AdvisoryValue) → read_more before (advisories_of (get_or files i d).bytes.items) ≡ Ok after
      → advisories_from before (i + 1) (file_bytes (drop i files)) ≡ advisories_from after (i + 1 + 1) (file_bytes (drop (i + 1) files))
  one_file after read = starts ∙ ap from read

  pub file_refused : (error : AdvisoriesError) → read_more before (advisories_of (get_or files i d).bytes.items) ≡ Err error
      → advisories_from before (i + 1) (file_bytes (drop i files)) ≡ Err (cause.Advisories (i + 1) error)
  file_refused error read = starts ∙ ap from read

pub no_file_left : (files : List FileBytes) (i n : ℕ) (all : List AdvisoryValue) → length files ≤ i → advisories_from all n (file_bytes (drop i files)) ≡ Ok all
unfolding advisories_from
no_file_left files i n all whole = ap (λ rest. advisories_from all n (file_bytes rest)) (drop_of_length-le files whole)
