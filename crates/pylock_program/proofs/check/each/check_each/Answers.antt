-- Both files are read, and what differs is printed.
use Rattle.std.proofs.Common.{Ok, rules}
use Rattle.pylock_program.proofs.check.each.check_each.Goals as goal

pub returns : goal.returns
returns g c = record {
  read = Ok c.in_ok-lock.lock.bytes.items;
  between = g.R.Source.value c.read_bytes.new.host.reader;
  given = c.in_ok-lock.ensures.read;
  leads = record {
    read = Ok c.in_ok-file.file.bytes.items;
    between = g.R.Source.value c.read_bytes-2.new.host.reader;
    given = rw c.in_ok-lock.ensures.files at c.in_ok-file.ensures.read;
    leads = (
      record {
        end = c.write_check.result;
        is_end = rw (c.in_ok-file.ensures.writer, c.in_ok-lock.ensures.writer) at c.write_check.ensures;
        tells = c.program_end.ensures;
      },
      search rules,
    );
  };
}
