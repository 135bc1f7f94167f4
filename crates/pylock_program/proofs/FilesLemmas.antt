-- The locks of files, of one more of them, and the sources of one lock.
use Rattle.std.proofs.Common.{◌≡◌, ◌∙◌, ◌+◌, ◌<◌, ◌≤◌, ◌++◌, ℕ, Bool, true, false, List, [], ◌∷◌, None, Some, Result, Ok, Err, add-one, ap, append-nil, append_assoc, drop, drop-cons, get_or, length, refl, sym}
use Rattle.std.proofs.Math.ListN.{drop_of_length-le}
use Rattle.pytext.specs.Results.{◌>>=◌}
use Rattle.std.specs.Result.{result_map_both}
use Rattle.pylock_command.specs.declared.form.Form.{Form}
use Rattle.pylock_command.specs.declared.option.PlanOption.{PlanOption}
use Rattle.pylock_command.specs.declared.task.FilesOutput.TheVariants.{Shown}
use Rattle.pylock_readers.specs.declared.error.LockError.{LockError}
use Rattle.pylock_union.specs.Listed.{LockSourceValue, all_lent, lent, sources_from}
use Rattle.pylock_union.specs.declared.listed.LockSource.{LockSource}
use Rattle.pylock_program.proofs.AdvisoryLemmas.{first_left}
use Rattle.pylock_program.specs.Files.{ReadValue, chosen_sources, files_report, is_described, left_source, left_sources, listed_from, lock_by, lock_cause, lock_in, locks_from, sources_report, sources_shown}
use Rattle.pylock_program.specs.Inner.Audit.{file_bytes}
use Rattle.pylock_program.specs.Refusal.{refusal_report, report_or_refusal}
use Rattle.pylock_program.specs.declared.file.FileBytes.{FileBytes}
use Rattle.pylock_program.specs.declared.refusal.Cause.{Cause}

-- ---- what is read

module _ (described : Bool) (files : List FileBytes) (i : ℕ) (d : FileBytes) (before : List ReadValue) (within : i < length files) where
  abbrev from : Result ReadValue Cause → Result (List ReadValue) Cause
  from read = read >>= (λ lock. locks_from (before ++ lock ∷ []) described (file_bytes (drop (i + 1) files)))

  starts : locks_from before described (file_bytes (drop i files)) ≡ from (lock_in described (get_or files i d).bytes.items)
  unfolding locks_from
  starts = ap (locks_from before described) (first_left files i d within)

  pub one_lock : (lock : ReadValue) → lock_in described (get_or files i d).bytes.items ≡ Ok lock
      → locks_from before described (file_bytes (drop i files)) ≡ locks_from (before ++ lock ∷ []) described (file_bytes (drop (i + 1) files))
  one_lock lock read = starts ∙ ap from read

  pub lock_refused : (because : Cause) → lock_in described (get_or files i d).bytes.items ≡ Err because
      → locks_from before described (file_bytes (drop i files)) ≡ Err because
  lock_refused because read = starts ∙ ap from read

pub no_lock_left : (described : Bool) (files : List FileBytes) (i : ℕ) (all : List ReadValue) → length files ≤ i
    → locks_from all described (file_bytes (drop i files)) ≡ Ok all
unfolding locks_from
no_lock_left described files i all whole = ap (λ rest. locks_from all described (file_bytes rest)) (drop_of_length-le files whole)

-- ---- which sources

-- the next source, behind those that are left so far
module _ (options : List PlanOption) (list : List LockSource) (i : ℕ) (d : LockSource) (within : i < length list) where
  abbrev rest : List LockSourceValue
  rest = left_sources options (all_lent (drop (i + 1) list))

  next_left : left_sources options (all_lent (drop i list)) ≡ left_source options (lent (get_or list i d)) ++ rest
  next_left = rw add-one (ap (λ behind. left_sources options (all_lent behind)) (drop-cons list i d within))

  pub one_left : (left left' all : List LockSourceValue) (source : LockSource) → source ≡ get_or list i d
      → left ++ left_sources options (all_lent (drop i list)) ≡ all → left' ≡ left ++ left_source options (lent source)
      → left' ++ rest ≡ all
  one_left left left' all source is whole more =
      ap (λ so. so ++ rest) (more ∙ ap (λ s. left ++ left_source options (lent s)) is)
      ∙ append_assoc left (left_source options (lent (get_or list i d))) rest
      ∙ ap (λ behind. left ++ behind) (sym next_left)
      ∙ whole

-- no option leaves none out
all_left : (list : List LockSourceValue) → left_sources [] list ≡ list
all_left [] = refl
all_left (one ∷ list) = ap (λ rest. one ∷ rest) (all_left list)

pub whole_lock : (lock : ReadValue) → left_sources [] (listed_from 1 (lock ∷ [])) ≡ sources_from 1 lock.1 0 lock.0.entries
whole_lock lock = all_left (listed_from 1 (lock ∷ [])) ∙ append-nil (sources_from 1 lock.1 0 lock.0.entries)

-- ---- one lock

pub one_answered : (form : Form) (bytes : List ℕ) (lock : ReadValue) → lock_by (is_described (Shown form)) bytes ≡ Ok lock
    → files_report (Shown form) None bytes
    ≡ record { text = sources_shown form false (left_sources [] (listed_from 1 (lock ∷ []))); status = 0 }
unfolding locks_from
one_answered form bytes lock read =
    ap (λ r. report_or_refusal (Some form) None (sources_report (Shown form) false)
    ((result_map_both (λ l. l) lock_cause r >>= (λ l. locks_from (l ∷ []) (is_described (Shown form)) [])) >>= chosen_sources false [])) read

pub one_refused : (form : Form) (bytes : List ℕ) (error : LockError) → lock_by (is_described (Shown form)) bytes ≡ Err error
    → files_report (Shown form) None bytes ≡ refusal_report (Some form) None (lock_cause error)
unfolding locks_from
one_refused form bytes error read =
    ap (λ r. report_or_refusal (Some form) None (sources_report (Shown form) false)
    ((result_map_both (λ l. l) lock_cause r >>= (λ l. locks_from (l ∷ []) (is_described (Shown form)) [])) >>= chosen_sources false [])) read
