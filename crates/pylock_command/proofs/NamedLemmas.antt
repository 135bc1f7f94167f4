-- A subcommand that the words name: clap makes of them without the others what it makes with them.
use Rattle.std.proofs.Common.{◌≡◌, ◌∙◌, ◌++◌, ◌&&◌, ◌||◌, List, [], ◌∷◌, Option, None, Some, Bool, true, false, ap, ap₂, cond, map, not, sym, refl, subst, codes}
use Rattle.std.proofs.lemmas.Bool.{and_parts, not-true}
use Rattle.std.proofs.lemmas.Slice.Eq.{bytes_eq-Decides}
use Rattle.std.specs.List.{find, fold}
use Rattle.std.specs.Option.{is_some, option_map, option_map_or}
use Rattle.std.specs.Str.{bytes_eq}
use Rattle.clap.proofs.FaultLemmas.{stopped_fault}
use Rattle.clap.proofs.WalkLemmas.{find-map, walk_stopped}
use Rattle.clap.specs.Faults.{built_fault, check_fault, defaults_fault, entered_fault, fault_of, is_simple_and_free, level_fault, other_fault, settle_fault, step_fault, walk_fault}
use Rattle.clap.specs.Kinds.{Kinds, or_else}
use Rattle.clap.specs.Simple.{App, Shape, argument_words, built, built_leaf, entered, help_shape, inherited, label_of, marked_built, names_of, rows_at, subcommand_of, with_leaf_noted}
use Rattle.clap.specs.Walk.{Held, Step, Text, Walk, after_step, answers_to, finished, idle, nothing_held, settled, stop_after, subcommand_met, subcommand_or_other, walk, walk_from, walked}
use Rattle.pylock_command.proofs.ClapLemmas.{pylock_app-is_simple_and_free}
use Rattle.pylock_command.specs.CommandLine.{IsEnough, pylock_app, top_app}
use Rattle.pylock_command.specs.Subcommand.{has_name, usage_app, usages_for, with_usage}
use Rattle.pylock_command.specs.declared.subcommand.Usage.{Usage}

-- ---- a walk over words of which the first names a subcommand

abbrev named : Text → List Shape → Option Shape
named name subs = find (λ sub. answers_to name (label_of sub)) subs

-- what is left to the subcommand, and to the arguments of the command, which the words don't have
abbrev fault_by : Shape → List Text → Option Shape → Kinds
fault_by top rest sub = or_else (option_map_or (λ s. level_fault s [] nothing_held rest false []) sub [])
    (or_else (settle_fault top.rules top.args_override_self nothing_held)
    (or_else (defaults_fault (settled top.rules nothing_held).rows top.rules)
    (check_fault top (finished top.rules nothing_held) (is_some (option_map (λ s. rows_at s rest) sub)))))

no_help : (s : Shape) (name : Text) (h : Held) → bytes_eq name (codes "help") ≡ false → other_fault s (Some name) name h ≡ []
no_help s name h other = rw other refl

module _ (top : Shape) (subs : List Shape) (sub : Shape) (is : named sub.name subs ≡ Some sub) (rest : List Text) where
  abbrev app : App
  app = record { top = top; subs = subs }

  -- what the first word is, by the subcommand that it names
  abbrev step_by : Option Text → Held × Step
  step_by name = subcommand_or_other top.rules name idle 1 sub.name nothing_held

  abbrev after_by : Option Text → Walk
  after_by name = after_step top.rules sub.name (walk_from nothing_held) (step_by name).0 (step_by name).1

  abbrev end : Walk
  end = record (walk_from nothing_held) { stopped = Some (sub.name, rest) }

  abbrev walk_fault_by : Option Text → Kinds
  walk_fault_by name = or_else (or_else (other_fault top name sub.name nothing_held) (step_fault top 1 (step_by name).0 (step_by name).1))
      (walk_fault top (names_of app) (after_by name) rest)

  -- the faults of the command, by where its walk ends
  abbrev fault_at : Walk → Kinds → Kinds
  fault_at w faults = or_else faults
      (or_else (entered_fault app w.stopped) (or_else (settle_fault top.rules top.args_override_self w.held)
      (or_else (defaults_fault (settled top.rules w.held).rows top.rules)
      (check_fault top (finished top.rules w.held) (is_some (entered app w.stopped))))))

  met : subcommand_met (names_of app) idle sub.name ≡ Some sub.name
  met = ap (option_map (λ (l : Text × List Text). l.0)) (sym (find-map (answers_to sub.name) label_of subs) ∙ ap (option_map label_of) is)

  stops : walk top.rules (names_of app) nothing_held (sub.name ∷ rest) ≡ end
  unfolding walked
  stops = ap (λ (name : Option Text). fold (walked top.rules (names_of app)) (after_by name) rest) met
      ∙ sym (walk_stopped top.rules (names_of app) (walk_from nothing_held) sub.name [] rest)

  no_fault : bytes_eq sub.name (codes "help") ≡ false → walk_fault top (names_of app) (walk_from nothing_held) (sub.name ∷ rest) ≡ []
  unfolding walk_fault walked
  no_fault other = ap walk_fault_by met
      ∙ (ap (λ (faults : Kinds). or_else (or_else faults []) (walk_fault top (names_of app) (after_by (Some sub.name)) rest)) (no_help top sub.name nothing_held other)
      ∙ stopped_fault top (names_of app) (walk_from nothing_held) (sub.name, []) rest)

  built_fault-named : bytes_eq sub.name (codes "help") ≡ false → built_fault app nothing_held (sub.name ∷ rest) ≡ fault_by top rest (Some sub)
  built_fault-named other = ap₂ fault_at stops (no_fault other) ∙ ap (fault_by top rest) is

  entered-named : entered app (stop_after top.rules (names_of app) (sub.name ∷ rest)) ≡ Some (rows_at sub rest)
  entered-named = ap (λ (w : Walk). entered app w.stopped) stops ∙ ap (option_map (λ s. rows_at s rest)) is

-- what a command makes of words that name a subcommand of its, by the subcommand alone
module _ (app : App) (top : Shape) (subs : List Shape) (builds : built app ≡ record { top = top; subs = subs }) (names_program : app.top.no_binary_name ≡ false)
    (sub : Shape) (is : named sub.name subs ≡ Some sub) (word : Text) (rest : List Text) where
  words_after : argument_words app (word ∷ sub.name ∷ rest) ≡ sub.name ∷ rest
  words_after = ap (λ (b : Bool). cond b (word ∷ sub.name ∷ rest) (sub.name ∷ rest)) names_program

  fault_of-named : bytes_eq sub.name (codes "help") ≡ false → fault_of app (word ∷ sub.name ∷ rest) ≡ fault_by top rest (Some sub)
  fault_of-named other = ap₂ (λ (a : App) (words : List Text). built_fault a nothing_held words) builds words_after
      ∙ built_fault-named top subs sub is rest other

  subcommand_of-named : subcommand_of app (word ∷ sub.name ∷ rest) ≡ Some (rows_at sub rest)
  subcommand_of-named = ap₂ (λ (a : App) (words : List Text). entered a (stop_after a.top.rules (names_of a) words)) builds words_after
      ∙ entered-named top subs sub is rest

-- ---- searches

module _ (p : Usage → Bool) where
  passes : (usages : List Usage) (usage : Usage) → find p usages ≡ Some usage → p usage ≡ true
  passes [] usage found = absurd cc
  passes (x ∷ xs) usage found = by (p x) refl found (passes xs usage)
    where
      by : (b : Bool) → p x ≡ b → cond b (Some x) (find p xs) ≡ Some usage → (find p xs ≡ Some usage → p usage ≡ true) → p usage ≡ true
      by true is here more = cc
      by false is later more = more later

  -- where two functions agree on a list, they agree on what is found in it
  at_found : {Y : Type 0} (f g : Usage → Y) (usages : List Usage) (usage : Usage) → map f usages ≡ map g usages → find p usages ≡ Some usage
      → f usage ≡ g usage
  at_found f g [] usage same found = absurd cc
  at_found f g (x ∷ xs) usage same found =
      let tail : map f xs ≡ map g xs = cc in
      by (p x) found (at_found f g xs usage tail)
    where
      by : (b : Bool) → cond b (Some x) (find p xs) ≡ Some usage → (find p xs ≡ Some usage → f usage ≡ g usage) → f usage ≡ g usage
      by true here more = cc
      by false later more = more later

-- ---- the program's subcommands

-- a subcommand as it is built below the program, and what words call it
unfoldable pub built_sub : Usage → Shape
built_sub usage = built_leaf (inherited (with_leaf_noted (marked_built (record top_app.top { is_leaf = false }))) (usage_app usage).top)

abbrev pub label : Usage → Text × List Text
label usage = (usage.name.now, [])

abbrev pub is_labelled : List Usage → Type 0
is_labelled usages = map (λ usage. label_of (built_sub usage)) usages ≡ map label usages

named_among : (usages : List Usage) (others : List Shape) (name : Text) (usage : Usage) → is_labelled usages → find (has_name name) usages ≡ Some usage
    → named name (map built_sub usages ++ others) ≡ Some (built_sub usage)
named_among [] others name usage same found = absurd cc
named_among (x ∷ xs) others name usage same found =
    let head : label_of (built_sub x) ≡ label x = cc in
    let tail : is_labelled xs = cc in
    ap (λ (l : Text × List Text). cond (answers_to name l) (Some (built_sub x)) (named name (map built_sub xs ++ others))) head
    ∙ by (has_name name x) found (named_among xs others name usage tail)
  where
    by : (b : Bool) → cond b (Some x) (find (has_name name) xs) ≡ Some usage
        → (find (has_name name) xs ≡ Some usage → named name (map built_sub xs ++ others) ≡ Some (built_sub usage))
        → cond (b || false) (Some (built_sub x)) (named name (map built_sub xs ++ others)) ≡ Some (built_sub usage)
    by true here more = let is : x ≡ usage = cc in ap (λ (u : Usage). Some (built_sub u)) is
    by false later more = more later

-- clap tells what it makes of words where it knows this subcommand alone, which isn't `help`
abbrev pub is_telling : Usage → Bool
is_telling usage = is_simple_and_free (with_usage top_app usage) && not (bytes_eq usage.name.now (codes "help"))

-- the program's command with some of them, as it is built
unfoldable pub built_top : Shape
built_top = (built (record { top = record top_app.top { is_leaf = false }; subs = [] })).top

abbrev pub built_with : List Usage → App
built_with usages = record { top = built_top; subs = map built_sub usages ++ built_leaf help_shape ∷ [] }

one_is-built : (usage : Usage) → built (with_usage top_app usage) ≡ built_with (usage ∷ [])
unfolding built_sub built_top
one_is-built usage = refl

all_names-program : pylock_app.top.no_binary_name ≡ false
unfolding pylock_app
all_names-program = refl

-- these are the program's subcommands
pub record AreAll (known : List Usage) : Type 0 where
  pub labels : is_labelled known
  pub telling : map is_telling known ≡ map (λ usage. true) known
  pub are : fold with_usage top_app known ≡ pylock_app
  pub built-is : built pylock_app ≡ built_with known

module _ (known : List Usage) (all : AreAll known) where
  -- the one that the words name is enough
  enough_one : (word : Text) (usage : Usage) (rest : List Text) → find (has_name usage.name.now) known ≡ Some usage
      → IsEnough (word ∷ usage.name.now ∷ rest) (with_usage top_app usage)
  enough_one word usage rest found =
      let name : Text = usage.name.now in
      let app : App = with_usage top_app usage in
      let sub : Shape = built_sub usage in
      let others : List Shape = built_leaf help_shape ∷ [] in
      let tells : is_telling usage ≡ true = at_found (has_name name) is_telling (λ usage. true) known usage all.telling found in
      let parts = and_parts (is_simple_and_free app) (not (bytes_eq name (codes "help"))) tells in
      let label_is : label_of sub ≡ label usage = at_found (has_name name) (λ usage. label_of (built_sub usage)) label known usage all.labels found in
      let called : sub.name ≡ name = ap (λ (l : Text × List Text). l.0) label_is in
      let other : bytes_eq sub.name (codes "help") ≡ false =
      ap (λ (name : Text). bytes_eq name (codes "help")) called ∙ not-true (bytes_eq name (codes "help")) parts.1 in
      let itself : find (has_name sub.name) (usage ∷ []) ≡ Some usage =
      ap (λ (b : Bool). cond b (Some usage) None) (ap (bytes_eq name) called ∙ (bytes_eq-Decides name name).1 refl) in
      let found_so : find (has_name sub.name) known ≡ Some usage = subst (λ (name : Text). find (has_name name) known ≡ Some usage) (sym called) found in
      let alone : named sub.name (built_with (usage ∷ [])).subs ≡ Some sub =
      named_among (usage ∷ []) others sub.name usage (ap (λ (l : Text × List Text). l ∷ []) label_is) itself in
      let among : named sub.name (built_with known).subs ≡ Some sub = named_among known others sub.name usage all.labels found_so in
      subst (λ (name : Text). IsEnough (word ∷ name ∷ rest) (with_usage top_app usage)) called (record {
        tells = parts.0;
        same_faults = fault_of-named app built_top (built_with (usage ∷ [])).subs (one_is-built usage) refl sub alone word rest other
            ∙ sym (fault_of-named pylock_app built_top (built_with known).subs all.built-is all_names-program sub among word rest other);
        same_subcommand = subcommand_of-named app built_top (built_with (usage ∷ [])).subs (one_is-built usage) refl sub alone word rest
            ∙ sym (subcommand_of-named pylock_app built_top (built_with known).subs all.built-is all_names-program sub among word rest);
      })

  enough_all : (words : List Text) → IsEnough words (fold with_usage top_app known)
  enough_all words = subst (IsEnough words) (sym all.are) (record { tells = pylock_app-is_simple_and_free; same_faults = refl; same_subcommand = refl })

  enough_for : (words : List Text) → IsEnough words (fold with_usage top_app (usages_for words known))
  unfolding usages_for
  enough_for [] = enough_all []
  enough_for (word ∷ []) = enough_all (word ∷ [])
  enough_for (word ∷ name ∷ rest) = by (find (has_name name) known) refl
    where
      by : (found : Option Usage) → find (has_name name) known ≡ found
          → IsEnough (word ∷ name ∷ rest) (fold with_usage top_app (option_map_or (λ usage. usage ∷ []) found known))
      by None is = enough_all (word ∷ name ∷ rest)
      by (Some usage) is =
          let same : usage.name.now ≡ name = (bytes_eq-Decides usage.name.now name).0 (passes (has_name name) known usage is) in
          subst (λ (name : Text). IsEnough (word ∷ name ∷ rest) (with_usage top_app usage)) same
          (enough_one word usage rest (subst (λ (name : Text). find (has_name name) known ≡ Some usage) (sym same) is))

  pub IsEnough-for : (words : List Text) (usages : List Usage) → usages ≡ usages_for words known → IsEnough words (fold with_usage top_app usages)
  IsEnough-for words usages are = subst (λ (usages : List Usage). IsEnough words (fold with_usage top_app usages)) (sym are) (enough_for words)
