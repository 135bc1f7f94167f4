use Rattle.std.proofs.Common.{◌≡◌, ◌∙◌, ◌++◌, Ok, ap, map, subst, sym}
use Rattle.std.specs.List.{flat_map}
use Rattle.std.specs.Rc.{rc_str_bytes}
use Rattle.pywheel_core.specs.Inner.Lent.{lower_set, set_of}
use Rattle.pywheel_core.specs.Inner.Pieces.{spans_in}
use Rattle.pywheel_core.specs.Spans.{AreWithin, tag_at}
use Rattle.pywheel_core.proofs.Lemmas.Tag.Lowering.{set_lowered}
use Rattle.pywheel_core.proofs.Lemmas.Tag.Pieces.{SetStands, three_length}
use Rattle.pywheel_core.proofs.cut.TagSet.tags.Goals as goal

stands : (c : goal.After-as_slice-3) → SetStands (rc_str_bytes c.args.lower.now) (lower_set (set_of c.args.self.now))
    (spans_in c.in_ok-pythons.pythons) (spans_in c.in_ok-abis.abis) (spans_in c.in_ok-platforms.platforms)
stands c = set_lowered c.args.text.now (rc_str_bytes c.args.lower.now) (set_of c.args.self.now) c.spans.result
    (spans_in c.in_ok-pythons.pythons) (spans_in c.in_ok-abis.abis) (spans_in c.in_ok-platforms.platforms) c.requires.lower c.spans.ensures
    c.in_ok-pythons.ensures c.in_ok-abis.ensures c.in_ok-platforms.ensures c.requires.whole c.requires.set

pub spans-requires : goal.spans-requires
spans-requires c = three_length c.args.text.now (set_of c.args.self.now) c.requires.whole

pub push_tags-requires : goal.push_tags-requires
push_tags-requires c =
    let x = stands c in
    let text = rc_str_bytes c.args.lower.now in
    record {
      ascii = x.ascii;
      pythons = subst (AreWithin text) (sym c.as_slice.ensures) x.pythons_within;
      abis = subst (AreWithin text) (sym c.as_slice-2.ensures) x.abis_within;
      platforms = subst (AreWithin text) (sym c.as_slice-3.ensures) x.platforms_within;
    }

pub returns : goal.returns
returns c =
    let text = rc_str_bytes c.args.lower.now in
    let stand = set_lowered c.args.text.now text (set_of c.args.self.now) c.spans.result
    (spans_in c.in_ok-pythons.pythons) (spans_in c.in_ok-abis.abis) (spans_in c.in_ok-platforms.platforms) c.requires.lower c.spans.ensures
    c.in_ok-pythons.ensures c.in_ok-abis.ensures c.in_ok-platforms.ensures c.requires.whole c.requires.set in
    let made : c.push_tags.new.tags.items ≡ flat_map (λ p. flat_map (λ b. map (λ q. tag_at text p b q) (spans_in c.in_ok-platforms.platforms)) (spans_in c.in_ok-abis.abis)) (spans_in c.in_ok-pythons.pythons) =
    c.in_ok-push_tags.ensures.added ∙ (λ i. c.in_ok-tags.ensures.items i ++ flat_map (λ p. flat_map (λ b. map (λ q. tag_at text p b q) (c.as_slice-3.ensures i)) (c.as_slice-2.ensures i)) (c.as_slice.ensures i)) in
    ap Ok (sym (made ∙ stand.tags))
