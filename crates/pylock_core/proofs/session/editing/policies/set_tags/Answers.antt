use Rattle.std.proofs.Common.{◌∙◌, ap, List, refl}
use Rattle.pylock_core.specs.Inner.Tables.Rows.{with_rows}
use Rattle.pylock_core.specs.Inner.Tables.Names.{policy_at}
use Rattle.pylock_core.specs.Session.Judgement.{OfTags, entry_reads}
use Rattle.pywheel_core.specs.Tag.{TagValue}
use Rattle.pylock_core.specs.Session.Steps.{standing}
use Rattle.pylock_core.specs.declared.session.parts.Parts.{Parts}
use Rattle.pylock_core.proofs.Lemmas.Judging.Judgement.{anew_judged, anew_named, anew_numbered, anew_within, with_rows_anew, Suffices, no_and_yes}
use Rattle.pylock_core.proofs.Lemmas.Judging.Verdict.{best_same}
use Rattle.pylock_core.proofs.session.editing.policies.set_tags.Goals as goal

tags_suffice : (parts : Parts) (tags : List TagValue)
    → Suffices parts (entry_reads OfTags) parts.environment tags parts.names.policies.items (policy_at parts.names.policies.items)
tags_suffice parts tags = record {
  hit = λ e r named is. refl;
  miss = λ e r named never.
      let best = best_same e (policy_at parts.names.policies.items r.name) parts.tags tags (no_and_yes (entry_reads OfTags e) never) in
      λ i. record { standing = standing e parts.environment; best = best i };
}

pub put_rows-requires : goal.put_rows-requires
put_rows-requires c =
    let p = c.args.parts.now in
    anew_within p (entry_reads OfTags) p.environment c.args.tags (policy_at p.names.policies.items) c.in_ok-fresh.fresh.items c.requires c.in_ok-fresh.ensures.rows

pub returns-clause-session : goal.returns-clause-session
returns-clause-session c =
    let p = c.args.parts.now in
    let s = c.requires in
    let test = entry_reads OfTags in
    let policies = p.names.policies.items in
    let is = with_rows_anew p test p.environment c.args.tags (policy_at policies) c.put_rows.new.rows.items (c.put_rows.ensures ∙ ap (λ fresh. with_rows fresh p.rows.items) c.in_ok-fresh.ensures.rows) in
    record {
      few = s.few;
      named = anew_named p test p.environment c.args.tags (policy_at policies) c.put_rows.new.rows.items s is;
      judged = anew_judged p test p.environment c.args.tags policies (policy_at policies) c.put_rows.new.rows.items s (tags_suffice p c.args.tags) is;
      head = s.head;
      names = s.names;
      members = s.members;
      index = s.index;
      living = s.living;
      sets = s.sets;
      conditions = anew_numbered p test p.environment c.args.tags (policy_at policies) c.put_rows.new.rows.items s is;
    }
