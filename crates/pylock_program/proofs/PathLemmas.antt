-- What stands at several paths, read one after another.
use Rattle.std.proofs.Common.{◌≡◌, ◌∙◌, ◌+◌, ◌<◌, ◌≤◌, ◌++◌, ◌⊎◌, inl, ℕ, Bor, List, [], ◌∷◌, Result, Ok, Err, add-one, ap, append-nil, append_assoc, drop, drop-cons, get_or, length, map, refl, subst, sym}
use Rattle.std.proofs.Math.ListN.{drop_of_length-le}
use Rattle.std.proofs.lemmas.List.{map-append}
use Rattle.pytext.specs.Results.{◌>>=◌}
use Rattle.pylock_run.specs.Files.{Reads}
use Rattle.pylock_run.specs.Stream.{SourceValue}
use Rattle.pylock_program.specs.Inner.Audit.{file_bytes}
use Rattle.pylock_program.specs.Paths.{AreJoined, AreReadAs, IsReadAs}
use Rattle.pylock_program.specs.declared.file.FileBytes.{FileBytes}
use Rattle.pylock_program.specs.declared.failure.Failure.{Failure}

abbrev Files : Type 0
Files = Result (List (List ℕ)) Failure

-- these come behind those that were read
abbrev pub behind : List (List ℕ) → Files → Files
behind read others = others >>= λ more. Ok (read ++ more)

-- whatever the rest gives, it comes behind those that were read
abbrev pub Continues : Reads → (paths rest read : List (List ℕ)) → (source between : SourceValue) → Type 0
Continues gives paths rest read source between =
    (source' : SourceValue) (others : Files) → AreReadAs gives rest between source' others → AreReadAs gives paths source source' (behind read others)

module _ (gives : Reads) where
  none_behind : (others : Files) → others ≡ behind [] others
  none_behind (Ok more) = refl
  none_behind (Err failure) = refl

  one_behind : (read : List (List ℕ)) (bytes : List ℕ) (others : Files)
      → behind read (others >>= λ more. Ok (bytes ∷ more)) ≡ behind (read ++ bytes ∷ []) others
  one_behind read bytes (Ok more) = ap (λ all. Ok all) (sym (append_assoc read (bytes ∷ []) more))
  one_behind read bytes (Err failure) = refl

  pub begins : (paths : List (List ℕ)) (source : SourceValue) → Continues gives paths paths [] source source
  begins paths source source' others are = subst (AreReadAs gives paths source source') (none_behind others) are

  pub continues : (paths rest read : List (List ℕ)) (path bytes : List ℕ) (source between next : SourceValue)
      → IsReadAs gives path between next (Ok bytes) → Continues gives paths (path ∷ rest) read source between
      → Continues gives paths rest (read ++ bytes ∷ []) source next
  unfolding AreReadAs
  continues paths rest read path bytes source between next is goes source' others are =
      subst (AreReadAs gives paths source source') (one_behind read bytes others)
      (goes source' (others >>= λ more. Ok (bytes ∷ more)) (record {
        first = Ok bytes;
        others = others;
        between = next;
        is_first = is;
        are_others = are;
        joins = refl;
      }))

  pub ends : (paths read : List (List ℕ)) (source between : SourceValue)
      → Continues gives paths [] read source between → AreReadAs gives paths source between (Ok read)
  unfolding AreReadAs
  ends paths read source between goes =
      subst (λ all. AreReadAs gives paths source between (Ok all)) (append-nil read) (goes between (Ok []) (refl, refl))

  pub fails : (paths rest read : List (List ℕ)) (path : List ℕ) (source between next : SourceValue) (failure : Failure)
      → IsReadAs gives path between next (Err failure) → Continues gives paths (path ∷ rest) read source between
      → AreReadAs gives paths source next (Err failure)
  unfolding AreReadAs
  fails paths rest read path source between next failure is goes = goes next (Err failure) (record {
    first = Err failure;
    others = Ok [];
    between = next;
    is_first = is;
    are_others = refl;
    joins = refl;
  })

-- ---- the same of paths behind references

abbrev pub lent : List (Bor (List ℕ)) → List (List ℕ)
lent paths = map (λ path. path.now) paths

first_left : (paths : List (Bor (List ℕ))) (i : ℕ) (d : Bor (List ℕ)) → i < length paths → lent (drop i paths) ≡ (get_or paths i d).now ∷ lent (drop (i + 1) paths)
first_left paths i d within = rw add-one (ap lent (drop-cons paths i d within))

module _ (gives : Reads) (paths : List (Bor (List ℕ))) (i : ℕ) (d : Bor (List ℕ)) (files : List FileBytes) (source between next : SourceValue) (within : i < length paths)
    (goes : Continues gives (lent paths) (lent (drop i paths)) (file_bytes files) source between) where
  goes_on : Continues gives (lent paths) ((get_or paths i d).now ∷ lent (drop (i + 1) paths)) (file_bytes files) source between
  goes_on = subst (λ rest. Continues gives (lent paths) rest (file_bytes files) source between) (first_left paths i d within) goes

  pub one_more : (given : Reads) (file : FileBytes) (files' : List FileBytes) → given ≡ gives → IsReadAs given (get_or paths i d).now between next (Ok file.bytes.items)
      → files' ≡ files ++ file ∷ [] → Continues gives (lent paths) (lent (drop (i + 1) paths)) (file_bytes files') source next
  one_more given file files' same is behind =
      subst (λ read. Continues gives (lent paths) (lent (drop (i + 1) paths)) read source next)
      (sym (ap file_bytes behind ∙ map-append (λ f. f.bytes.items) files (file ∷ [])))
      (continues gives (lent paths) (lent (drop (i + 1) paths)) (file_bytes files) (get_or paths i d).now file.bytes.items source between next
      (subst (λ r. IsReadAs r (get_or paths i d).now between next (Ok file.bytes.items)) same is) goes_on)

  pub one_fails : (given : Reads) (failure : Failure) → given ≡ gives → IsReadAs given (get_or paths i d).now between next (Err failure)
      → AreReadAs gives (lent paths) source next (Err failure)
  one_fails given failure same is =
      fails gives (lent paths) (lent (drop (i + 1) paths)) (file_bytes files) (get_or paths i d).now source between next failure
      (subst (λ r. IsReadAs r (get_or paths i d).now between next (Err failure)) same is) goes_on

pub all_read : (gives : Reads) (paths : List (Bor (List ℕ))) (i : ℕ) (files : List FileBytes) (source between : SourceValue) → length paths ≤ i
    → Continues gives (lent paths) (lent (drop i paths)) (file_bytes files) source between → AreReadAs gives (lent paths) source between (Ok (file_bytes files))
all_read gives paths i files source between whole goes =
    ends gives (lent paths) (file_bytes files) source between
    (subst (λ rest. Continues gives (lent paths) rest (file_bytes files) source between) (ap lent (drop_of_length-le paths whole)) goes)
