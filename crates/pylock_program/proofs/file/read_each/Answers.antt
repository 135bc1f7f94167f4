use Rattle.std.proofs.Common.{◌≡◌, Err, ap, inl, rules}
use Rattle.pylock_program.proofs.PathLemmas.{all_read, one_fails, one_more}
use Rattle.pylock_program.proofs.file.read_each.Goals as goal

pub returns-in_err-file-clause-read : goal.returns-in_err-file-clause-read
returns-in_err-file-clause-read g c =
    let same : c.from_residual.result ≡ Err c.in_err-file.field-0.0 = search rules in
    rw same (inl (one_fails (g.F.Files.read_gives c.args.host.now.files) c.args.paths.now c.loop-path.path-index _ c.loop-path.files.items
    (g.R.Source.value c.args.host.now.reader) (g.R.Source.value c.loop-path.host.reader) (g.R.Source.value c.read_bytes.new.host.reader)
    c.loop-path-test.true c.loop-path.invariant.0 (g.F.Files.read_gives c.loop-path.host.files) c.in_err-file.field-0.0 (ap g.F.Files.read_gives c.loop-path.invariant.1)
    c.in_err-file.ensures.read))

pub loop-path-preserved : goal.loop-path-preserved
loop-path-preserved g c = (
  one_more (g.F.Files.read_gives c.args.host.now.files) c.args.paths.now c.loop-path.path-index _ c.loop-path.files.items
      (g.R.Source.value c.args.host.now.reader) (g.R.Source.value c.loop-path.host.reader) (g.R.Source.value c.read_bytes.new.host.reader)
      c.loop-path-test.true c.loop-path.invariant.0 (g.F.Files.read_gives c.loop-path.host.files) c.in_ok-file.file c.push.new.self.items
      (ap g.F.Files.read_gives c.loop-path.invariant.1) c.in_ok-file.ensures.read c.in-Ok.ensures.items,
  search rules,
  search rules,
)

pub returns-clause-read : goal.returns-clause-read
returns-clause-read g c =
    inl (all_read _ c.args.paths.now c.loop-path.path-index c.loop-path.files.items _ _ c.loop-path-test.false c.loop-path.invariant.0)
