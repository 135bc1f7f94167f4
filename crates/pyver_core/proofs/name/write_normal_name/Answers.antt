use Rattle.std.proofs.Common.{◌≡◌, ◌≤◌, ◌<◌, ◌+◌, [], ◌∷◌, drop, get_or, length, refl, sym, ◌∙◌, arith, lit≤}
use Rattle.std.proofs.lemmas.List.{drop_all, drop_more}
use Rattle.pyver_core.specs.Name.{normal_name}
use Rattle.pyver_core.proofs.Lemmas.Name.Collapse.{all_counted, all_written, behind_more, normal_name-collapse, written_more}
use Rattle.pyver_core.proofs.name.write_normal_name.Goals as goal

pub loop-byte-init : goal.loop-byte-init
loop-byte-init c =
    record { within = lit≤ tt; capacity = refl; written = sym (normal_name-collapse c.as_bytes-bytes.result.now); behind = refl }

pub loop-byte-preserved : goal.loop-byte-preserved
loop-byte-preserved c =
    let l = c.loop-byte in
    let bytes = c.as_bytes-bytes.result.now in
    let here : l.byte-index < length bytes = omega arith in
    let next : drop l.byte-index bytes ≡ get_or bytes l.byte-index 0 ∷ drop (l.byte-index + 1) bytes = drop_more bytes l.byte-index 0 here in
    record {
      within = omega arith;
      capacity = c.add_byte-count.ensures.len ∙ l.invariant.capacity;
      written = rw c.is_separator-in_run.ensures (written_more l.out c.add_byte-count.new.out (normal_name bytes) (drop l.byte-index bytes)
          (drop (l.byte-index + 1) bytes) l.in_run (get_or bytes l.byte-index 0) l.count c.add_byte-count.result next
          c.add_byte-count.ensures.front l.invariant.written);
      behind = behind_more l.out c.add_byte-count.new.out c.args.out.now l.count c.add_byte-count.result c.add_byte-count.ensures.start
          c.add_byte-count.ensures.behind l.invariant.behind;
    }

pub returns-clause-count : goal.returns-clause-count
returns-clause-count c =
    let l = c.loop-byte in
    let bytes = c.as_bytes-bytes.result.now in
    let same : bytes ≡ c.args.text.now = c.as_bytes-bytes.ensures.value in
    let end : drop l.byte-index bytes ≡ [] = drop_all l.byte-index bytes (omega arith) in
    let fits : length bytes ≤ length c.args.out.now = omega arith in
    let within : l.count ≤ length l.out = omega arith in
    rw (← same) (fits, all_counted l.out (normal_name bytes) (drop l.byte-index bytes) l.in_run l.count within end l.invariant.written)

pub returns-clause-written : goal.returns-clause-written
returns-clause-written c =
    let l = c.loop-byte in
    let bytes = c.as_bytes-bytes.result.now in
    let same : bytes ≡ c.args.text.now = c.as_bytes-bytes.ensures.value in
    let end : drop l.byte-index bytes ≡ [] = drop_all l.byte-index bytes (omega arith) in
    rw (← same)
    (all_written l.out c.args.out.now (normal_name bytes) (drop l.byte-index bytes) l.in_run l.count end l.invariant.written l.invariant.behind)
