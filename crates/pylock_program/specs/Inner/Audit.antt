-- What an audit reads, as its definitions have it.
use Rattle.std.specs.Prelude.{ℕ, List, map}
use Rattle.pylock_program.specs.Audit.{AuditValue}
use Rattle.pylock_program.specs.declared.audit.OpenedAudit.{OpenedAudit}
use Rattle.pylock_program.specs.declared.file.FileBytes.{FileBytes}

abbrev pub file_bytes : List FileBytes → List (List ℕ)
file_bytes files = map (λ file. file.bytes.items) files

abbrev pub audit_value : OpenedAudit → AuditValue
audit_value opened = record {
  lock = opened.lock;
  found = opened.found.items;
  settings = opened.settings;
  policy = opened.policy;
  advisories = opened.advisories;
}
