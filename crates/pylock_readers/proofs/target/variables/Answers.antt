use Rattle.std.proofs.Common.{◌≡◌, refl, rules}
use Rattle.pywheel_core.specs.Target.Names.{os_name, platform_machine, platform_system, sys_platform}
use Rattle.pylock_readers.specs.Target.{release_text, target_environment, version_text}
use Rattle.pylock_readers.proofs.target.variables.Goals as goal

pub returns : goal.returns
unfolding target_environment
returns c =
    let t = c.args.target.now in
    let os : c.os_name.result.now ≡ os_name t.platform = search rules in
    let sys : c.sys_platform.result.now ≡ sys_platform t.platform = search rules in
    let machine : c.platform_machine.result.now ≡ platform_machine t.platform = search rules in
    let system : c.platform_system.result.now ≡ platform_system t.platform = search rules in
    let version : c.as_str.result.now ≡ version_text t.python = search rules in
    let release : c.as_str-2.result.now ≡ release_text t.python = search rules in
    let again : c.as_str-3.result.now ≡ release_text t.python = search rules in
    rw (
      c.in_ok-set-9.ensures.ok,
      again,
      c.in_ok-set-8.ensures.ok,
      c.in_ok-set-7.ensures.ok,
      release,
      c.in_ok-set-6.ensures.ok,
      version,
      c.in_ok-set-5.ensures.ok,
      system,
      c.in_ok-set-4.ensures.ok,
      c.in_ok-set-3.ensures.ok,
      machine,
      c.in_ok-set-2.ensures.ok,
      sys,
      c.in_ok-set.ensures.ok,
      os,
      c.new-environment.ensures,
    ) refl
