-- What clap's matches tell of the options of `plan`.
use Rattle.std.proofs.Common.{◌≡◌, ◌==◌, ◌||◌, not, rules, ◌++◌, ◌+◌, ◌<◌, ◌≤◌, ◌∙◌, inl, inr, add-one, append-nil, drop, drop-cons, subst, ℕ, Bor, List, [], ◌∷◌, Option, None, Some, length, map, take, false, Bool, get_or, codes, refl, sym, ap, ap₂, append_assoc, arith, option_map, unwrap_or}
use Rattle.std.proofs.lemmas.List.{map-append, take_all, take_more}
use Rattle.std.proofs.Math.Bool.{or_assoc}
use Rattle.std.proofs.Math.ListN.{drop_of_length-le}
use Rattle.std.specs.Option.{UnwrapsOrElse}
use Rattle.clap.proofs.WalkLemmas.{raw_values-rows}
use Rattle.clap.specs.Words.{Row, Text, matched_of, raw_values, rows_of}
use Rattle.clap.specs.declared.parser.matches.Found.{Found}
use Rattle.pylock_command.specs.PlanOptions.{AreOptions, AreOnFiles, Interleaves, OptionWords, texts_at, texts_of, has_plan_options, has_one, on_extras, on_groups, on_plan, option_words}
use Rattle.pylock_command.specs.declared.option.PlanOption.{PlanOption}

-- an option with the text behind a reference
abbrev pub named : Text → Bor Text → OptionWords
named name text = (name, Some text.now)

-- one more text of an option is pushed
pub pushed-more : (name : Text) (start : List OptionWords) (texts : List (Bor Text)) (i : ℕ) (d : Bor Text) (before after : List PlanOption) (option : PlanOption)
    → i < length texts → map option_words before ≡ start ++ map (named name) (take i texts) → after ≡ before ++ option ∷ [] → option_words option ≡ named name (get_or texts i d)
    → map option_words after ≡ start ++ map (named name) (take (i + 1) texts)
pushed-more name start texts i d before after option within so_far pushed is =
    ap (map option_words) pushed ∙ map-append option_words before (option ∷ [])
    ∙ ap₂ (λ (prefix : List OptionWords) (last : OptionWords). prefix ++ last ∷ []) so_far is
    ∙ append_assoc start (map (named name) (take i texts)) (named name (get_or texts i d) ∷ [])
    ∙ ap (λ (more : List OptionWords). start ++ more)
    (sym (ap (map (named name)) (take_more texts i d within) ∙ map-append (named name) (take i texts) (get_or texts i d ∷ [])))

named-all : (name : Text) (texts : List (Bor Text)) → map (named name) texts ≡ map (λ (text : Text). (name, Some text)) (map (λ text. text.now) texts)
named-all name [] = refl
named-all name (text ∷ texts) = ap (λ (rest : List OptionWords). named name text ∷ rest) (named-all name texts)

texts-named : (name : Text) (texts : List (Bor Text)) (rows : List Row) → map (λ text. text.now) texts ≡ texts_at name rows → map (named name) texts ≡ texts_of name rows
texts-named name texts rows told = named-all name texts ∙ ap (map (λ (text : Text). (name, Some text))) told

-- all texts of an option were pushed
pub pushed-all : (name : Text) (start : List OptionWords) (texts : List (Bor Text)) (i : ℕ) (rows : List Row) (options : List PlanOption)
    → length texts ≤ i → map option_words options ≡ start ++ map (named name) (take i texts) → map (λ text. text.now) texts ≡ texts_at name rows
    → map option_words options ≡ start ++ texts_of name rows
pushed-all name start texts i rows options whole pushed told =
    pushed ∙ ap (λ (some : List (Bor Text)). start ++ map (named name) some) (take_all i texts whole)
    ∙ ap (λ (more : List OptionWords). start ++ more) (texts-named name texts rows told)

-- what the rows have for an option
pub texts-told : (found : Found) (name : Text) (given : Option (Bor (List (Bor Text)))) (result : Bor (List (Bor Text)))
    → UnwrapsOrElse given (λ x. x.now ≡ []) result → option_map (λ s. map (λ v. v.now) s.now) given ≡ option_map raw_values (matched_of found name)
    → map (λ text. text.now) result.now ≡ texts_at name (rows_of found)
texts-told found name given result unwrapped is =
    unwrapped-texts given unwrapped ∙ ap (λ (texts : Option (List Text)). unwrap_or texts []) (is ∙ raw_values-rows found name)
  where
    unwrapped-texts : (o : Option (Bor (List (Bor Text)))) → UnwrapsOrElse o (λ x. x.now ≡ []) result
        → map (λ text. text.now) result.now ≡ unwrap_or (option_map (λ s. map (λ v. v.now) s.now) o) []
    unwrapped-texts None u = ap (map (λ (text : Bor Text). text.now)) u
    unwrapped-texts (Some texts) u = ap (λ (t : Bor (List (Bor Text))). map (λ (text : Bor Text). text.now) t.now) u

abbrev wheels_of : List (Bor Text) → List OptionWords
wheels_of = map (named (codes "only-binary"))

abbrev sources_of : List (Bor Text) → List OptionWords
sources_of = map (named (codes "no-binary"))

-- Some of two options were pushed: whatever is made of the others, in their order, goes on to all.
pub record Merging (wheels sources : List (Bor Text)) (wheel source : ℕ) (start : List OptionWords) (options : List PlanOption) : Type 0 where
  pub wheel_within : wheel ≤ length wheels
  pub source_within : source ≤ length sources
  pub goes_on : (rest : List OptionWords) → Interleaves (wheels_of (drop wheel wheels)) (sources_of (drop source sources)) rest
      → (all : List OptionWords) × Interleaves (wheels_of wheels) (sources_of sources) all × (map option_words options ++ rest ≡ start ++ all)

pushed-before : (start rest all : List OptionWords) (before after : List PlanOption) (option : PlanOption) (x : OptionWords) → after ≡ before ++ option ∷ [] → option_words option ≡ x
    → map option_words before ++ x ∷ rest ≡ start ++ all → map option_words after ++ rest ≡ start ++ all
pushed-before start rest all before after option x pushed is whole =
    ap (λ (prefix : List OptionWords). prefix ++ rest) (ap (map option_words) pushed ∙ map-append option_words before (option ∷ []) ∙ ap (λ (last : OptionWords). map option_words before ++ last ∷ []) is)
    ∙ append_assoc (map option_words before) (x ∷ []) rest ∙ whole

first-left : (name : Text) (texts : List (Bor Text)) (i : ℕ) (d : Bor Text) → i < length texts
    → map (named name) (drop i texts) ≡ named name (get_or texts i d) ∷ map (named name) (drop (i + 1) texts)
first-left name texts i d within = rw add-one (ap (map (named name)) (drop-cons texts i d within))

module _ (wheels sources : List (Bor Text)) (wheel source : ℕ) (d : Bor Text) (start : List OptionWords) (before after : List PlanOption) (option : PlanOption)
    (m : Merging wheels sources wheel source start before) (pushed : after ≡ before ++ option ∷ []) where
  pub wheel-merged : wheel < length wheels → option_words option ≡ named (codes "only-binary") (get_or wheels wheel d)
      → Merging wheels sources (wheel + 1) source start after
  wheel-merged within is = record {
    wheel_within = omega arith;
    source_within = m.source_within;
    goes_on = λ rest left.
        let x = named (codes "only-binary") (get_or wheels wheel d) in
        let whole = m.goes_on (x ∷ rest) (inl (wheels_of (drop (wheel + 1) wheels), first-left (codes "only-binary") wheels wheel d within, left)) in
        (whole.0, whole.1, pushed-before start rest whole.0 before after option x pushed is whole.2);
  }

  pub source-merged : source < length sources → option_words option ≡ named (codes "no-binary") (get_or sources source d)
      → Merging wheels sources wheel (source + 1) start after
  source-merged within is = record {
    wheel_within = m.wheel_within;
    source_within = omega arith;
    goes_on = λ rest left.
        let x = named (codes "no-binary") (get_or sources source d) in
        let whole = m.goes_on (x ∷ rest) (inr (sources_of (drop (source + 1) sources), first-left (codes "no-binary") sources source d within, left)) in
        (whole.0, whole.1, pushed-before start rest whole.0 before after option x pushed is whole.2);
  }

-- all of two options were pushed
pub all-merged : (wheels sources : List (Bor Text)) (wheel source : ℕ) (start : List OptionWords) (options : List PlanOption) (rows : List Row)
    → Merging wheels sources wheel source start options → length wheels ≤ wheel → length sources ≤ source
    → map (λ text. text.now) wheels ≡ texts_at (codes "only-binary") rows → map (λ text. text.now) sources ≡ texts_at (codes "no-binary") rows
    → (on_files : List OptionWords) × AreOnFiles rows on_files × (map option_words options ≡ start ++ on_files)
all-merged wheels sources wheel source start options rows m no_wheel no_source told_wheels told_sources =
    let whole = m.goes_on [] (ap wheels_of (drop_of_length-le wheels no_wheel), ap sources_of (drop_of_length-le sources no_source)) in
    let by_wheels = subst (λ (one : List OptionWords). Interleaves one (sources_of sources) whole.0) (texts-named (codes "only-binary") wheels rows told_wheels) whole.1 in (
      whole.0,
      subst (λ (other : List OptionWords). Interleaves (texts_of (codes "only-binary") rows) other whole.0) (texts-named (codes "no-binary") sources rows told_sources) by_wheels,
      sym (append-nil (map option_words options)) ∙ whole.2,
    )

-- ---- whether there is an option

has_one-append : (some more : List OptionWords) → has_one (some ++ more) ≡ (has_one some || has_one more)
has_one-append [] more = refl
has_one-append (option ∷ some) more = refl

has_one-interleaved : (one other all : List OptionWords) → Interleaves one other all → has_one all ≡ (has_one one || has_one other)
has_one-interleaved one other [] is = rw is.0 (rw is.1 refl)
has_one-interleaved one other (option ∷ all) (inl is) = rw is.1 refl
has_one-interleaved [] other (option ∷ all) (inr is) = rw is.1 refl
has_one-interleaved (first ∷ one) other (option ∷ all) (inr is) = refl

-- what is read of the options tells whether there is one
pub has_one-told : (rows : List Row) (options : List PlanOption) → AreOptions rows options → has_one (map option_words options) ≡ has_plan_options rows
has_one-told rows options are =
    let extras = on_extras rows in
    let groups = on_groups rows in
    let wheels = texts_of (codes "only-binary") rows in
    let sources = texts_of (codes "no-binary") rows in
    let sets = on_plan rows in
    let files : has_one are.on_files ≡ (has_one wheels || has_one sources) = has_one-interleaved wheels sources are.on_files are.are_on_files in
    let some = extras ++ groups in
    ap has_one are.in_order
    ∙ has_one-append (some ++ are.on_files) sets ∙ ap (λ (b : Bool). b || has_one sets) (has_one-append some are.on_files ∙ ap (λ (b : Bool). has_one some || b) files
    ∙ sym (or_assoc (has_one some) (has_one wheels) (has_one sources))
    ∙ ap (λ (b : Bool). b || has_one sources) (sym (has_one-append some wheels)) ∙ sym (has_one-append (some ++ wheels) sources)) ∙ sym (has_one-append (some ++ wheels ++ sources) sets)

-- there is none exactly where none is read
pub has_plan_options-told : (rows : List Row) (options : List PlanOption) (empty : Bool) → AreOptions rows options → empty ≡ (length options == 0) → has_plan_options rows ≡ not empty
has_plan_options-told rows [] empty are is = sym (has_one-told rows [] are) ∙ ap not (sym is)
has_plan_options-told rows (option ∷ options) empty are is =
    let some : (length (option ∷ options) == 0) ≡ false = search rules in
    sym (has_one-told rows (option ∷ options) are) ∙ ap not (sym (is ∙ some))
