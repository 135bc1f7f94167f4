-- Lemmas on the ranks of tag sets, and on the best wheels by them.
use Rattle.std.proofs.Common.{[], ◌≡◌, ◌⊎◌, ⊎_elim, ℕ, suc, zero, ◌+◌, ◌<◌, ◌≤◌, ◌∙◌, List, ◌∷◌, map, length, get_or, slice_index_or, drop, true, false, Option, Some, None, IfSome, IsSome, option_map, Result, Ok, Err, unwrap_or, ap, sym, refl, arith}
use Rattle.std.proofs.lemmas.List.{drop_all, drop_more}
use Rattle.std.specs.Option.{option_and_then}
use Rattle.std.specs.Result.{result_ok}
use Rattle.pywheel_core.specs.Choice.{Ranked, best, best_from, better, rank_from, ranked}
use Rattle.pywheel_core.specs.Tag.{TagValue}
use Rattle.pywheel_core.specs.Texts.{three_parts}
use Rattle.pywheel_core.specs.Wheel.Reading.{set_tags_in, wheel_of}
use Rattle.pywheel_core.specs.Wheel.Value.{WheelValue}
use Rattle.pywheel_core.specs.declared.error.WheelError.{WheelError}
use Rattle.pywheel_core.proofs.Lemmas.Wheel.TagSet.{set_has_tags}
use Rattle.pylock_readers.specs.Entry.{EntryValue, FileValue, file_name, wheel_name, wheel_names}
use Rattle.pylock_core.specs.Inner.Judging.Judgement.{row_anew}
use Rattle.pylock_core.specs.Inner.Tables.Names.{policy_at}
use Rattle.pylock_core.specs.Inner.Parts.{IsJudged, IsNamed, IsSession, OfBoth}
use Rattle.pylock_core.specs.Inner.Judging.Ranks.{AreRanks, best_under, build_of, least_of, rank_at, rank_found, set_rank, with_build}
use Rattle.pylock_core.specs.Inner.Tables.TagSets.{IsNumbered, names_in, set_number, set_text}
use Rattle.pylock_core.specs.Session.Judgement.{VerdictValue, verdict_of}
use Rattle.pylock_core.specs.Session.Steps.{best_wheel, standing}
use Rattle.pylock_core.specs.declared.edit.Policy.{Policy}
use Rattle.pylock_core.specs.declared.edit.Policy.TheVariants.{Any, Wheel, Source}
use Rattle.pylock_core.specs.declared.session.parts.Parts.{Parts}
use Rattle.pylock_core.specs.declared.session.judging.ranks.BestWheel.{BestWheel}
use Rattle.pylock_core.specs.declared.session.judging.ranks.Ranks.{Ranks}
use Rattle.pylock_core.specs.declared.session.tables.rows.Row.{Row}
use Rattle.pylock_core.specs.declared.session.tables.tag_sets.TagSets.{TagSets}
use Rattle.pylock_core.proofs.Lemmas.Tables.Rows.{of_rows_at}

-- ---- the pass over the wheels

best_step : (first : Option Ranked) (i : ℕ) (wheels : List (Option WheelValue)) (tags : List TagValue) (d : Option WheelValue) → i < length wheels
    → best_from first i (drop i wheels) tags ≡ best_from (better first (ranked i (slice_index_or wheels i d) tags)) (i + 1) (drop (i + 1) wheels) tags
unfolding best_from
best_step first i wheels tags d l =
    let one : suc i ≡ i + 1 = omega arith in
    ap (λ xs. best_from first i xs tags) (drop_more wheels i d l)
    ∙ ap (λ n. best_from (better first (ranked i (slice_index_or wheels i d) tags)) n (drop (i + 1) wheels) tags) one

pub best_end : (first : Option Ranked) (i : ℕ) (wheels : List (Option WheelValue)) (tags : List TagValue) → length wheels ≤ i
    → best_from first i (drop i wheels) tags ≡ first
unfolding best_from
best_end first i wheels tags l = ap (λ xs. best_from first i xs tags) (drop_all i wheels l)

-- ---- ranks

-- the tags of a name are those of its tag set
name_reads : (file : FileValue) (wheel : WheelValue) → wheel_name file ≡ Some wheel → set_tags_in wheel.tag_set ≡ Ok wheel.tags
name_reads file wheel = by (file_name file)
  where
    read : (text : List ℕ) (r : Result WheelValue WheelError) → wheel_of text ≡ r → result_ok r ≡ Some wheel → set_tags_in wheel.tag_set ≡ Ok wheel.tags
    read text (Ok w) is some = let same : w ≡ wheel = ap (λ o. unwrap_or o w) some in
        set_has_tags text wheel (is ∙ ap Ok same)
    read text (Err error) is none = let e : ◌≡◌ {A = Option WheelValue} None (Some wheel) = none in cc

    by : (name : Option (List ℕ)) → option_and_then (λ text. result_ok (wheel_of text)) name ≡ Some wheel → set_tags_in wheel.tag_set ≡ Ok wheel.tags
    by None none = let e : ◌≡◌ {A = Option WheelValue} None (Some wheel) = none in cc
    by (Some text) some = read text (wheel_of text) refl some

wheel_reads : (files : List FileValue) (k : ℕ) (wheel : WheelValue) → get_or (map wheel_name files) k None ≡ Some wheel → set_tags_in wheel.tag_set ≡ Ok wheel.tags
wheel_reads [] k wheel is = let e : ◌≡◌ {A = Option WheelValue} None (Some wheel) = is in cc
wheel_reads (file ∷ files) zero wheel is = name_reads file wheel is
wheel_reads (file ∷ files) (suc k) wheel is = wheel_reads files k wheel is

pub wheel_says : (entry : Option EntryValue) (k : ℕ) (wheel : WheelValue) → get_or (names_in entry) k None ≡ Some wheel → set_tags_in wheel.tag_set ≡ Ok wheel.tags
wheel_says None k wheel is = let e : ◌≡◌ {A = Option WheelValue} None (Some wheel) = is in cc
wheel_says (Some entry) k wheel is = wheel_reads entry.wheels k wheel is

-- the empty text is no tag set
pub no_set : (tags : List TagValue) → set_rank [] tags ≡ None
unfolding set_tags_in three_parts
no_set tags = refl

-- the rank of a wheel's tag set is that of its tags
pub rank_here : (entry : Option EntryValue) (k : ℕ) (wheel : WheelValue) (tags : List TagValue) → get_or (names_in entry) k None ≡ Some wheel → rank_from None wheel.tags tags ≡ rank_at entry k tags
rank_here entry k wheel tags is =
    sym (ap (λ w. set_rank (set_text w) tags) is ∙ ap (λ r. least_of r tags) (wheel_says entry k wheel is))

pub rank_nowhere : (entry : Option EntryValue) (k : ℕ) (tags : List TagValue) → get_or (names_in entry) k None ≡ None → None ≡ rank_at entry k tags
rank_nowhere entry k tags is = sym (ap (λ w. set_rank (set_text w) tags) is ∙ no_set tags)

-- a wheel as the choice sees it, by the rank of its tag set
pub ranked_here : (entry : Option EntryValue) (k : ℕ) (tags : List TagValue)
    → option_map (λ rank. record { rank = rank; build = build_of (get_or (names_in entry) k None); place = k }) (rank_at entry k tags) ≡ ranked k (get_or (names_in entry) k None) tags
unfolding ranked
ranked_here entry k tags = by (get_or (names_in entry) k None) refl
  where
    by : (w : Option WheelValue) → get_or (names_in entry) k None ≡ w
        → option_map (λ rank. record { rank = rank; build = build_of w; place = k }) (set_rank (set_text w) tags) ≡ ranked k w tags
    by None is = ap (option_map _) (no_set tags)
    by (Some wheel) is = ap (λ r. option_map (λ rank. record { rank = rank; build = wheel.build; place = k }) (least_of r tags)) (wheel_says entry k wheel is)

-- what is found of the set of a wheel's number is the wheel's rank
pub known_rank : (sets : TagSets) (tags : List TagValue) (ranks : Ranks) (entry : Option EntryValue) (k n : ℕ) → AreRanks sets tags ranks
    → set_number sets (set_text (get_or (names_in entry) k None)) ≡ Some n → IfSome (rank_found ranks n) (λ rank. rank ≡ rank_at entry k tags)
known_rank sets tags ranks entry k n are number = by (rank_found ranks n) refl
  where
    by : (found : Option (Option ℕ)) → rank_found ranks n ≡ found → IfSome found (λ rank. rank ≡ rank_at entry k tags)
    by None is = tt
    by (Some rank) is = are (set_text (get_or (names_in entry) k None)) n rank number is

-- one more rank was found
pub ranks_more : (sets : TagSets) (tags : List TagValue) (old new : Ranks) (entry : Option EntryValue) (k n : ℕ) (rank : Option ℕ) → IsNumbered sets
    → set_number sets (set_text (get_or (names_in entry) k None)) ≡ Some n → rank ≡ rank_at entry k tags
    → ((m : ℕ) (found : Option ℕ) → rank_found new m ≡ Some found → (rank_found old m ≡ Some found) ⊎ ((m ≡ n) × (found ≡ rank)))
    → AreRanks sets tags old → AreRanks sets tags new
ranks_more sets tags old new entry k n rank numbered number is put are = λ set m found has there. ⊎_elim
    (λ old_there. are set m found has old_there)
    (λ both. both.1 ∙ is ∙ ap (λ text. set_rank text tags) (numbered.apart (set_text (get_or (names_in entry) k None)) set n number (has ∙ ap Some both.0)))
    (put m found there)

-- ---- the walk over the wheels

seen : (wheels : List (Option WheelValue)) (k : ℕ) (rank : Option ℕ)
    → option_map (with_build wheels) (option_map (λ r. record { rank = r; place = k }) rank) ≡ option_map (λ r. record { rank = r; build = build_of (get_or wheels k None); place = k }) rank
seen wheels k None = refl
seen wheels k (Some rank) = refl

-- one more wheel was looked at
pub wheel_more : (entry : Option EntryValue) (tags : List TagValue) (first later next : Option BestWheel) (k : ℕ) (rank : Option ℕ) (all : Option Ranked) → k < length (names_in entry)
    → rank ≡ rank_at entry k tags → later ≡ option_map (λ r. record { rank = r; place = k }) rank
    → option_map (with_build (names_in entry)) next ≡ better (option_map (with_build (names_in entry)) first) (option_map (with_build (names_in entry)) later)
    → best_from (option_map (with_build (names_in entry)) first) k (drop k (names_in entry)) tags ≡ all
    → best_from (option_map (with_build (names_in entry)) next) (k + 1) (drop (k + 1) (names_in entry)) tags ≡ all
wheel_more entry tags first later next k rank all within is_rank is_later made before =
    let wheels : List (Option WheelValue) = names_in entry in
    let ranked_so : option_map (with_build wheels) later ≡ ranked k (get_or wheels k None) tags =
    ap (option_map (with_build wheels)) is_later ∙ seen wheels k rank ∙ ap (option_map (λ r. record { rank = r; build = build_of (get_or wheels k None); place = k })) is_rank ∙ ranked_here entry k tags in
    ap (λ r. best_from r (k + 1) (drop (k + 1) wheels) tags) (made ∙ ap (better (option_map (with_build wheels) first)) ranked_so)
    ∙ sym (best_step (option_map (with_build wheels) first) k wheels tags None within) ∙ before

pub best_place : (wheels : List (Option WheelValue)) (found : Option BestWheel) (tags : List TagValue) → option_map (with_build wheels) found ≡ best_from None 0 wheels tags
    → option_map (λ b. b.place) found ≡ best wheels tags
unfolding best
best_place wheels found tags is = by found ∙ ap (option_map (λ r. r.place)) is
  where
    by : (b : Option BestWheel) → option_map (λ b. b.place) b ≡ option_map (λ r. r.place) (option_map (with_build wheels) b)
    by None = refl
    by (Some b) = refl

-- ---- rows judged again

-- where an entry stands, so does its row
pub no_row : {P : Type 0} (parts : Parts) (k : ℕ) → IsSession parts → IsSome (get_or parts.entries.items k None) → get_or parts.rows.items k None ≡ None → P
no_row {P} parts k s there none =
    by (get_or parts.entries.items k None) there (of_rows_at (IsNamed parts.names) parts.entries.items parts.rows.items k (get_or parts.entries.items k None) None s.named refl (sym none))
  where
    by : (e : Option EntryValue) → IsSome e → OfBoth (IsNamed parts.names) e None → P
    by None stands h = let e : false ≡ true = stands in cc
    by (Some e) stands h = absurd h

under_policy : (policy : Policy) (entry : EntryValue) (tags : List TagValue) → best_under policy (wheel_names entry) tags ≡ best_wheel entry tags policy
under_policy Any entry tags = refl
under_policy Wheel entry tags = refl
under_policy Source entry tags = refl

-- a row that keeps how its entry stands, with the best wheel by other tags, is judged by these
pub row_ranked : (parts : Parts) (k : ℕ) (tags : List TagValue) (row : Row) (policy : Policy) (verdict : VerdictValue) → IsSession parts
    → IsSome (get_or parts.entries.items k None) → get_or parts.rows.items k None ≡ Some row → policy ≡ policy_at parts.names.policies.items row.name
    → verdict ≡ record { standing = row.verdict.standing; best = best_under policy (names_in (get_or parts.entries.items k None)) tags }
    → Some (record { verdict = verdict; name = row.name; condition = row.condition; sources = row.sources })
    ≡ row_anew parts.environment tags (policy_at parts.names.policies.items) (get_or parts.entries.items k None) (get_or parts.rows.items k None)
row_ranked parts k tags row policy verdict s there stands is_policy made =
    by (get_or parts.entries.items k None) there (of_rows_at P parts.entries.items parts.rows.items k (get_or parts.entries.items k None) (Some row) s.judged refl (sym stands)) made
    ∙ ap (row_anew parts.environment tags (policy_at parts.names.policies.items) (get_or parts.entries.items k None)) (sym stands)
  where
    P : EntryValue → Row → Type 0
    P = IsJudged parts.environment parts.tags parts.names.policies.items

    by : (e : Option EntryValue) → IsSome e → OfBoth P e (Some row) → verdict ≡ record { standing = row.verdict.standing; best = best_under policy (names_in e) tags }
        → Some (record { verdict = verdict; name = row.name; condition = row.condition; sources = row.sources }) ≡ row_anew parts.environment tags (policy_at parts.names.policies.items) e (Some row)
    by None stands judged made = let e : false ≡ true = stands in cc
    by (Some e) stands judged made =
        let kept : row.verdict.standing ≡ standing e parts.environment = ap (λ v. v.standing) judged in
        let chosen : best_under policy (wheel_names e) tags ≡ best_wheel e tags (policy_at parts.names.policies.items row.name) = under_policy policy e tags ∙ ap (best_wheel e tags) is_policy in
        let whole : verdict ≡ verdict_of e parts.environment tags (policy_at parts.names.policies.items row.name) = made ∙ (λ i. record { standing = kept i; best = chosen i }) in
        (λ i. Some (record { verdict = whole i; name = row.name; condition = row.condition; sources = row.sources }))
