use Rattle.std.proofs.Common.{◌∙◌, unwrap_or, ap, sym, subst, ◌≡◌, Bool, true, false, List, Some, None, cond, refl}
use Rattle.pylock_core.specs.Inner.Tables.Rows.{with_standings}
use Rattle.pylock_core.specs.Inner.Tables.Names.{policy_at}
use Rattle.pylock_core.specs.Session.Judgement.{Marked, entry_reads, AgreeAtKey, IndexKey, OfTags, head_reads}
use Rattle.pymark_core.specs.Environment.{EnvironmentValue}
use Rattle.pymark_core.specs.declared.marker.keys.Key.{Key}
use Rattle.pywheel_core.specs.Tag.{TagValue}
use Rattle.pylock_core.specs.Inner.Editing.{DifferAt}
use Rattle.pylock_core.specs.Inner.Parts.{IsSession}
use Rattle.pylock_core.specs.Session.Steps.{head_fault}
use Rattle.pylock_core.specs.declared.session.parts.Parts.{Parts}
use Rattle.pylock_core.proofs.Lemmas.Judging.Judgement.{anew_judged, anew_named, anew_numbered, with_standings_anew, standings_within, Suffices, no_and_yes}
use Rattle.pylock_core.proofs.Lemmas.Judging.Verdict.{MarkersRead, entry_same, head_same}
use Rattle.pylock_core.proofs.session.editing.environment.change_environment.Goals as goal

-- what doesn't read the key at which two environments differ reads the same of both
agree_apart : (reads : IndexKey → Bool) (key : Key) (e f : EnvironmentValue) (tags : List TagValue) → DifferAt key e f → reads (Marked key) ≡ false
    → (k : IndexKey) → reads k ≡ true → AgreeAtKey k e f tags tags
agree_apart reads key e f tags differ never (Marked k) is = differ k (λ same. no_and_yes (reads (Marked k)) (ap (λ j. reads (Marked j)) same ∙ never) is)
agree_apart reads key e f tags differ never OfTags is = refl

environment_suffices : MarkersRead → (parts : Parts) (environment : EnvironmentValue) (key : Key) → DifferAt key parts.environment environment
    → Suffices parts (entry_reads (Marked key)) environment parts.tags parts.names.policies.items (policy_at parts.names.policies.items)
environment_suffices reading parts environment key differ = record {
  hit = λ e r named is. refl;
  miss = λ e r named is. entry_same reading e (policy_at parts.names.policies.items r.name) parts.environment environment parts.tags parts.tags
      (agree_apart (λ k. entry_reads k e) key parts.environment environment parts.tags differ is);
}

-- the head's verdict, judged again where it reads the key
head_suffices : MarkersRead → (parts : Parts) (environment : EnvironmentValue) (key : Key) → IsSession parts → DifferAt key parts.environment environment
    → unwrap_or (cond (head_reads (Marked key) parts.head) (Some (head_fault parts.head environment)) None) parts.head_verdict ≡ head_fault parts.head environment
head_suffices reading parts environment key s differ = by (head_reads (Marked key) parts.head) refl
  where
    by : (b : Bool) → head_reads (Marked key) parts.head ≡ b → unwrap_or (cond b (Some (head_fault parts.head environment)) None) parts.head_verdict ≡ head_fault parts.head environment
    by true is = refl
    by false is = s.head ∙ head_same reading parts.head parts.environment environment parts.tags parts.tags
        (agree_apart (λ k. head_reads k parts.head) key parts.environment environment parts.tags differ is)

pub put_standings-requires : goal.put_standings-requires
put_standings-requires c = standings_within c.args.parts.now (entry_reads (Marked c.args.key)) c.args.edited.environment c.in_ok-verdict.fresh.items c.requires.session c.in_ok-verdict.ensures.standings

pub returns-clause-session : goal.returns-clause-session
returns-clause-session c =
    let p = c.args.parts.now in
    let s = c.requires.session in
    let test = entry_reads (Marked c.args.key) in
    let policies = p.names.policies.items in
    let rows = c.put_standings.new.rows.items in
    let e = c.args.edited.environment in
    let is = with_standings_anew p test e rows s (c.put_standings.ensures ∙ ap (λ fresh. with_standings fresh p.rows.items) c.in_ok-verdict.ensures.standings) in
    subst (λ (f : EnvironmentValue). IsSession (record p { head_verdict = c.put_head.new.kept; rows = c.put_standings.new.rows; environment = f })) (sym c.put.ensures) (record {
      few = s.few;
      named = anew_named p test e p.tags (policy_at policies) rows s is;
      judged = anew_judged p test e p.tags policies (policy_at policies) rows s
          (environment_suffices c.marker_reads.ensures p e c.args.key c.requires.differ) is;
      head = c.put_head.ensures ∙ ap (λ v. unwrap_or v p.head_verdict) c.in_ok-verdict.ensures.head
          ∙ head_suffices c.marker_reads.ensures p e c.args.key s c.requires.differ;
      names = s.names;
      members = s.members;
      index = s.index;
      living = s.living;
      sets = s.sets;
      conditions = anew_numbered p test e p.tags (policy_at policies) rows s is;
    })
