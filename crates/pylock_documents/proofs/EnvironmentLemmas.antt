-- The text of the environment of a target is read as that environment and its tags.
use Rattle.std.proofs.Common.{◌≡◌, ℕ, ◌≤◌, ◌<◌, ◌^◌, true, inl, inr, List, [], ◌∷◌, ◌++◌, codes, decimal, map, fold, Option, Some, None, Ok, IfSome, refl, ap, ◌∙◌, arith}
use Rattle.std.proofs.lemmas.Bool.Decides.{nat_tests}
use Rattle.std.proofs.lemmas.Bool.{and_parts}
use Rattle.std.proofs.lemmas.Str.{is_utf8-from_IsUtf8}
use Rattle.std.specs.List.{list_all}
use Rattle.std.specs.Str.{is_utf8}
use Rattle.json.specs.Tree as tree
use Rattle.serde_json.specs.Data as value
use Rattle.serde_json.specs.Data.{Data, Items, Members}
use Rattle.serde_json.specs.Find.{get_member}
use Rattle.serde_json.specs.Read.{max_depth, of_items, of_json, read}
use Rattle.serde_json.specs.Written.{compact_text, items_outline, outline}
use Rattle.pylock_json.specs.Json.{items_of, maybe, members_of, object_of}
use Rattle.pylock_shown.specs.Inner.Printable.{is_printable}
use Rattle.pymark_core.specs.Environment.{EnvironmentValue, empty_environment}
use Rattle.pymark_core.specs.Variables.{variable_name, variables}
use Rattle.pymark_core.specs.declared.variable.Var.{Var}
use Rattle.pymark_core.specs.declared.variable.Var.TheVariants as var
use Rattle.pywheel_core.proofs.Lemmas.Target.Parts as word
use Rattle.pywheel_core.proofs.Lemmas.Target.Parts.{is_plain_byte, plain_decimal}
use Rattle.pywheel_core.proofs.Lemmas.Target.Read.{read_known}
use Rattle.pywheel_core.proofs.Lemmas.Target.ReadBack.{list_reads, numbers_fit, tag_parts_plain}
use Rattle.pywheel_core.specs.Tag.{TagValue, tag_text}
use Rattle.pywheel_core.specs.Target.Compatible.{IsOneOf}
use Rattle.pywheel_core.specs.Target.Names.{linux_arch_name, os_name, platform_machine, platform_system, sys_platform}
use Rattle.pywheel_core.specs.Target.Reading.{target_of}
use Rattle.pywheel_core.specs.Target.Tags.{target_tags}
use Rattle.pywheel_core.specs.Target.Value.{TargetValue, is_target}
use Rattle.pywheel_core.specs.declared.target.cpython.CPython.{CPython}
use Rattle.pywheel_core.specs.declared.target.platform.LinuxArch.{LinuxArch}
use Rattle.pywheel_core.specs.declared.target.platform.MacArch.TheVariants as mac
use Rattle.pywheel_core.specs.declared.target.platform.Platform.{Platform}
use Rattle.pywheel_core.specs.declared.target.platform.Platform.TheVariants as platform
use Rattle.pywheel_core.specs.declared.target.platform.WindowsArch.TheVariants as windows
use Rattle.pylock_readers.proofs.TargetLemmas.{all_set, set_one}
use Rattle.pylock_readers.specs.Environment.{env_in, env_of, from_tags, member_text_in, tag_list_of, texts_in, with_members}
use Rattle.pylock_readers.specs.Target.{release_text, target_environment, variable_text}
use Rattle.pylock_documents.proofs.PlainLemmas.{ArePlainItems, ArePlainMembers, IsPlain, IsPlainData, line_reads, line_utf8, plain_both}
use Rattle.pylock_documents.specs.Environment.{environment_rows, target_text, variable_row}

abbrev target_members : TargetValue → Members
target_members t = members_of (map (variable_row (target_environment t)) variables)

abbrev target_data : TargetValue → Data
target_data t = object_of (environment_rows (target_environment t) (target_tags t))

-- ---- the variables, read back

name_there : (t : TargetValue) (v : Var) → get_member (variable_name v) (target_members t) ≡ maybe (variable_text t v)
unfolding target_environment
name_there t var.OsName = refl
name_there t var.SysPlatform = refl
name_there t var.PlatformMachine = refl
name_there t var.PlatformPythonImplementation = refl
name_there t var.PlatformRelease = refl
name_there t var.PlatformSystem = refl
name_there t var.PlatformVersion = refl
name_there t var.PythonVersion = refl
name_there t var.PythonFullVersion = refl
name_there t var.ImplementationName = refl
name_there t var.ImplementationVersion = refl

text_there : (text : Option (List ℕ)) → member_text_in (maybe text) ≡ Ok text
text_there None = refl
text_there (Some text) = refl

members_set : (t : TargetValue) (ms : Members) (vs : List Var) (e : EnvironmentValue) → ((v : Var) → get_member (variable_name v) ms ≡ maybe (variable_text t v))
    → with_members vs ms e ≡ Ok (fold (set_one t) e vs)
unfolding with_members
members_set t ms [] e there = refl
members_set t ms (v ∷ vs) e there =
    let here : member_text_in (get_member (variable_name v) ms) ≡ Ok (variable_text t v) = ap member_text_in (there v) ∙ text_there (variable_text t v) in
    rw here (members_set t ms vs (set_one t e v) there)

-- ---- the tags, read back

texts_back : (texts : List (List ℕ)) → texts_in (items_of (map value.string texts)) ≡ Ok texts
texts_back [] = refl
texts_back (t ∷ texts) = let rest = texts_back texts in rw rest refl

-- ---- the texts are printable ASCII

byte_plain : (b : ℕ) → is_plain_byte b ≡ true → is_printable b ≡ true
byte_plain b h = grind (arith, nat_tests)

word_plain : (w : List ℕ) → word.IsPlain w → IsPlain w
word_plain [] h = refl
word_plain (b ∷ w) h =
    let p = and_parts (is_plain_byte b) (list_all is_plain_byte w) h in
    let first = byte_plain b p.0 in let rest = word_plain w p.1 in rw (first, rest) refl

number_plain : (n : ℕ) → n < 2 ^ 64 → IsPlain (decimal n)
number_plain n h = word_plain (decimal n) (plain_decimal n h)

-- the names of a platform
os_plain : (p : Platform) → IsPlain (os_name p)
os_plain (platform.Manylinux minor arch) = refl
os_plain (platform.Musllinux minor arch) = refl
os_plain (platform.MacOs major minor arch) = refl
os_plain (platform.Windows arch) = refl

sys_plain : (p : Platform) → IsPlain (sys_platform p)
sys_plain (platform.Manylinux minor arch) = refl
sys_plain (platform.Musllinux minor arch) = refl
sys_plain (platform.MacOs major minor arch) = refl
sys_plain (platform.Windows arch) = refl

system_plain : (p : Platform) → IsPlain (platform_system p)
system_plain (platform.Manylinux minor arch) = refl
system_plain (platform.Musllinux minor arch) = refl
system_plain (platform.MacOs major minor arch) = refl
system_plain (platform.Windows arch) = refl

linux_plain : (arch : LinuxArch) → IsPlain (linux_arch_name arch)
linux_plain arch = word_plain (linux_arch_name arch) (word.linux_plain arch)

machine_plain : (p : Platform) → IsPlain (platform_machine p)
machine_plain (platform.Manylinux minor arch) = linux_plain arch
machine_plain (platform.Musllinux minor arch) = linux_plain arch
machine_plain (platform.MacOs major minor mac.X86_64) = refl
machine_plain (platform.MacOs major minor mac.Arm64) = refl
machine_plain (platform.Windows windows.X86) = refl
machine_plain (platform.Windows windows.Amd64) = refl
machine_plain (platform.Windows windows.Arm64) = refl

release_plain : (p : CPython) → p.minor < 2 ^ 64 → p.micro < 2 ^ 64 → IsPlain (release_text p)
release_plain p a b = plain_both (decimal p.minor) (codes "." ++ decimal p.micro) (number_plain p.minor a) (number_plain p.micro b)

-- the text of a variable, where there is one
abbrev IsPlainWhere : Option (List ℕ) → Type 0
IsPlainWhere text = IfSome text IsPlain

variable_plain : (t : TargetValue) (v : Var) → is_target t ≡ true → IsPlainWhere (variable_text t v)
variable_plain t var.OsName known = os_plain t.platform
variable_plain t var.SysPlatform known = sys_plain t.platform
variable_plain t var.PlatformMachine known = machine_plain t.platform
variable_plain t var.PlatformPythonImplementation known = refl
variable_plain t var.PlatformRelease known = tt
variable_plain t var.PlatformSystem known = system_plain t.platform
variable_plain t var.PlatformVersion known = tt
variable_plain t var.PythonVersion known = let b = (numbers_fit t known).0 in number_plain t.python.minor b
variable_plain t var.PythonFullVersion known = let b = numbers_fit t known in release_plain t.python b.0 b.1
variable_plain t var.ImplementationName known = refl
variable_plain t var.ImplementationVersion known = let b = numbers_fit t known in release_plain t.python b.0 b.1

tag_plain : (t : TargetValue) (x : TagValue) → is_target t ≡ true → IsOneOf x (target_tags t) → IsPlain (tag_text x)
tag_plain t x known h =
    let p = tag_parts_plain t x known h in
    plain_both x.python (45 ∷ (x.abi ++ (45 ∷ x.platform))) (word_plain x.python p.0)
    (plain_both x.abi (45 ∷ x.platform) (word_plain x.abi p.1) (word_plain x.platform p.2))

variables_plain : (t : TargetValue) → is_target t ≡ true → ArePlainMembers (target_members t)
unfolding target_environment
variables_plain t known =
    let of : (v : Var) → IsPlainWhere (variable_text t v) = λ v. variable_plain t v known in (
      refl,
      (
        of var.ImplementationName,
        (
          refl,
          (
            of var.ImplementationVersion,
            (
              refl,
              (
                of var.OsName,
                (
                  refl,
                  (
                    of var.PlatformMachine,
                    (
                      refl,
                      (
                        of var.PlatformPythonImplementation,
                        (
                          refl,
                          (
                            of var.PlatformSystem,
                            (
                              refl,
                              (
                                of var.PythonFullVersion,
                                (
                                  refl,
                                  (
                                    of var.PythonVersion,
                                    (refl, (of var.SysPlatform, tt)),
                                  ),
                                ),
                              ),
                            ),
                          ),
                        ),
                      ),
                    ),
                  ),
                ),
              ),
            ),
          ),
        ),
      ),
    )

abbrev tag_items : List TagValue → Items
tag_items tags = items_of (map value.string (map tag_text tags))

tags_plain : (tags : List TagValue) → ((x : TagValue) → IsOneOf x tags → IsPlain (tag_text x)) → ArePlainItems (tag_items tags)
tags_plain [] each = tt
tags_plain (x ∷ tags) each = (each x (inl refl), tags_plain tags (λ y h. each y (inr h)))

target_plain : (t : TargetValue) → is_target t ≡ true → IsPlainData (target_data t)
target_plain t known = (refl, (variables_plain t known, (refl, (tags_plain (target_tags t) (λ x h. tag_plain t x known h), tt))))

-- ---- the value, read back

tags_read : (tags : List TagValue) → of_items (items_outline (tag_items tags)) ≡ Some (tag_items tags)
tags_read [] = refl
tags_read (x ∷ tags) = let rest = tags_read tags in rw rest refl

tags_flat : (tags : List TagValue) → tree.items_depth (items_outline (tag_items tags)) ≡ 0
tags_flat [] = refl
tags_flat (x ∷ tags) = let rest = tags_flat tags in omega (arith, rest)

target_same : (t : TargetValue) → of_json (outline (target_data t)) ≡ Some (target_data t)
unfolding target_environment
target_same t = let tags = tags_read (target_tags t) in rw tags refl

target_shallow : (t : TargetValue) → tree.depth (outline (target_data t)) ≤ max_depth
unfolding target_environment
target_shallow t = let flat = tags_flat (target_tags t) in rw flat (omega arith)

value_back : (t : TargetValue) → is_target t ≡ true → env_in (target_data t) ≡ Ok (target_environment t, target_tags t)
unfolding env_in
value_back t known =
    let vs = members_set t (target_members t) variables empty_environment (name_there t) ∙ ap Ok (all_set t) in
    let texts = texts_back (map tag_text (target_tags t)) in
    let tags : tag_list_of (map tag_text (target_tags t)) ≡ Ok (target_tags t) = ap from_tags (list_reads t known) in
    rw vs (rw texts (rw tags refl))

text_back : (t : TargetValue) → is_target t ≡ true → env_of (target_text t) ≡ Ok (target_environment t, target_tags t)
unfolding env_of target_text
text_back t known =
    let d = target_data t in
    let plain = target_plain t known in
    let utf8 : is_utf8 (compact_text d ++ codes "\n") ≡ true = is_utf8-from_IsUtf8 _ (line_utf8 d plain) in
    let reads : read (compact_text d ++ codes "\n") ≡ Some d = line_reads d plain (target_same t) (target_shallow t) in
    rw utf8 (rw reads (value_back t known))

pub read_text_back : (python platform : List ℕ) (t : TargetValue) → target_of python platform ≡ Ok t → env_of (target_text t) ≡ Ok (target_environment t, target_tags t)
read_text_back python platform t h = text_back t (read_known python platform t h)
