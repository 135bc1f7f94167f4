-- How what is refused refuses its line.
use Rattle.pywheel_core.specs.declared.error.TagListError.{TagListError}
use Rattle.pywheel_core.specs.declared.error.TagListError.TheVariants as tags
use Rattle.pylock_core.specs.declared.edit.EditError.{EditError}
use Rattle.pylock_core.specs.declared.edit.EditError.TheVariants as edit
use Rattle.pylock_readers.specs.declared.error.EntryError.{EntryError}
use Rattle.pylock_readers.specs.declared.error.EntryError.TheVariants as entry
use Rattle.pylock_run.specs.declared.line.refusal.LineRefusal.{LineRefusal}
use Rattle.pylock_run.specs.declared.line.refusal.LineRefusal.TheVariants as refusal

-- of an edit
abbrev pub edit_refusal : EditError → LineRefusal
edit_refusal edit.UnknownExtra = refusal.Extra
edit_refusal edit.UnknownGroup = refusal.Group
edit_refusal edit.NoEntry = refusal.NoEntry
edit_refusal edit.TooMany = refusal.TooMany
edit_refusal edit.Memory = refusal.Memory

-- of the text of an entry: one that is no table isn't told from one that is no TOML
abbrev pub entry_refusal : EntryError → LineRefusal
entry_refusal entry.Toml = refusal.Toml
entry_refusal entry.NotTable = refusal.Toml
entry_refusal entry.Name = refusal.Entry
entry_refusal (entry.Key key) = refusal.Entry
entry_refusal entry.Marker = refusal.Entry
entry_refusal entry.RequiresPython = refusal.Entry
entry_refusal entry.Memory = refusal.Memory

-- of tags
abbrev pub tags_refusal : TagListError → LineRefusal
tags_refusal (tags.Tag position) = refusal.Tag
tags_refusal tags.Memory = refusal.Memory
