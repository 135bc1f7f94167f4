-- What is read of a specifier, seen as the specifier.
use Rattle.pyver_core.specs.Inner.VersionDraft.{draft_parts}
use Rattle.pyver_core.specs.Set.Prefix.{Prefix}
use Rattle.pyver_core.specs.declared.version.reading.base.Base.{Base}
use Rattle.pyver_core.specs.declared.set.reading.draft.SpecifierDraft.{SpecifierDraft}
use Rattle.pyver_core.specs.declared.set.reading.draft.SpecifierDraft.TheVariants as draft
use Rattle.pyver_core.specs.declared.set.specifier.Specifier.{Specifier}
use Rattle.pyver_core.specs.declared.set.specifier.Specifier.TheVariants as specifier

abbrev pub base_prefix : Base → Prefix
base_prefix b = record { epoch = b.epoch; release = b.release }

abbrev pub draft_specifier : SpecifierDraft → Specifier
draft_specifier (draft.Equal v) = specifier.Equal (draft_parts v)
draft_specifier (draft.EqualPrefix b) = specifier.EqualPrefix (base_prefix b)
draft_specifier (draft.NotEqual v) = specifier.NotEqual (draft_parts v)
draft_specifier (draft.NotEqualPrefix b) = specifier.NotEqualPrefix (base_prefix b)
draft_specifier (draft.AtMost v) = specifier.AtMost (draft_parts v)
draft_specifier (draft.AtLeast v) = specifier.AtLeast (draft_parts v)
draft_specifier (draft.Before v) = specifier.Before (draft_parts v)
draft_specifier (draft.After v) = specifier.After (draft_parts v)
draft_specifier (draft.Compatible v) = specifier.Compatible (draft_parts v)
draft_specifier (draft.Arbitrary text) = specifier.Arbitrary text.now
