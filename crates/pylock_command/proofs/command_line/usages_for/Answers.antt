use Rattle.std.proofs.Common.{◌≡◌, ◌∙◌, Bor, List, None, Option, Some, ap, map, refl, sym}
use Rattle.std.proofs.lemmas.Option.{slice_get-map, slice_get_past, slice_get_read}
use Rattle.std.specs.List.{slice_get}
use Rattle.std.specs.Option.{option_map, option_map_or}
use Rattle.std.specs.Slice.{IsItemAt}
use Rattle.clap.specs.Words.{Text}
use Rattle.pylock_command.specs.Subcommand.{usages_for, usages_named}
use Rattle.pylock_command.specs.declared.subcommand.Usage.{Usage}
use Rattle.pylock_command.proofs.command_line.usages_for.Goals as goal

-- the text of a word
text_at : (words : List (Bor Text)) (word : Option (Bor (Bor Text))) → IsItemAt words 1 word
    → slice_get (map (λ w. w.now) words) 1 ≡ option_map (λ w. w.now.now) word
text_at words None gives = slice_get-map (λ (w : Bor Text). w.now) words 1 ∙ ap (option_map (λ (w : Bor Text). w.now)) (slice_get_past words 1 gives.3)
text_at words (Some word) gives = slice_get-map (λ (w : Bor Text). w.now) words 1
    ∙ ap (option_map (λ (w : Bor Text). w.now)) (slice_get_read words _ 1 word.now refl gives.3.0 gives.1)

-- what is known of the text of the second word
found : (words : List (Bor Text)) (word : Option (Bor (Bor Text))) (usages : List Usage) → IsItemAt words 1 word
    → usages_for (map (λ w. w.now) words) usages ≡ option_map_or (λ name. usages_named name usages) (option_map (λ w. w.now.now) word) usages
unfolding usages_for
found words word usages gives =
    ap (λ (name : Option Text). option_map_or (λ name. usages_named name usages) name usages) (text_at words word gives)

pub returns-in-Some : goal.returns-in-Some
returns-in-Some c = c.usages_named.ensures ∙ sym (found c.args.words.now (Some c.in-Some.name) c.args.usages.now c.in-Some.ensures.lookup)

pub returns-in-None : goal.returns-in-None
returns-in-None c = sym (found c.args.words.now None c.args.usages.now c.in-None.ensures.lookup)
