-- Equality of tags, and that equal tags hash alike.
use Rattle.std.proofs.Common.{◌≡◌, ◌++◌, ◌&&◌, true, ap}
use Rattle.std.proofs.lemmas.Bool.{and_parts}
use Rattle.std.specs.Cmp.{IsEquivalence}
use Rattle.std.specs.Cmp.Lexicographic.{bytes_decides, nat_list_eq_equiv}
use Rattle.std.specs.Hash as fed
use Rattle.std.proofs.lemmas.Cmp.{and_equiv, on_equiv}
use Rattle.pywheel_core.specs.Tag.{TagValue, tag_eq, text_eq}

pub tag_equiv : IsEquivalence tag_eq
tag_equiv = and_equiv (on_equiv (λ t. t.python) nat_list_eq_equiv)
    (and_equiv (on_equiv (λ t. t.abi) nat_list_eq_equiv)
    (on_equiv (λ t. t.platform) nat_list_eq_equiv))

-- the three parts, one after the other
unfoldable pub fed_tag : TagValue → fed.HashWrites
fed_tag t = fed.str t.python ++ (fed.str t.abi ++ fed.str t.platform)

pub same_tag : (a b : TagValue) → tag_eq a b ≡ true → a ≡ b
same_tag a b e =
    let rest = text_eq a.abi b.abi && text_eq a.platform b.platform in
    let p = and_parts (text_eq a.python b.python) rest e in
    let q = and_parts (text_eq a.abi b.abi) (text_eq a.platform b.platform) p.1 in
    λ i. record {
      python = (bytes_decides a.python b.python).0 p.0 i;
      abi = (bytes_decides a.abi b.abi).0 q.0 i;
      platform = (bytes_decides a.platform b.platform).0 q.1 i;
    }

pub alike : (a b : TagValue) → tag_eq a b ≡ true → fed_tag a ≡ fed_tag b
alike a b e = ap fed_tag (same_tag a b e)
