use Rattle.std.proofs.Common.{ap, ◌∙◌}
use Rattle.format.specs.State.{meaning_of, offered}
use Rattle.format.proofs.Makes.{granted_is, granted_sound, made_meaning}
use Rattle.format.proofs.Mounting.{sound_well}
use Rattle.pages.proofs.pages.Pages.mount.Goals as goal

pub invariant_of-result : goal.invariant_of-result
invariant_of-result c =
    let g = c.granted-layout.result.limits in
    let w = sound_well (offered g c.args.entries.now c.args.values.now) (granted_sound c.args.limits g c.args.entries.now c.args.values.now c.granted-layout.ensures.answer c.granted-layout.ensures.bytes) in
    record { pages_fit = w.laid.long; values_fit = w.long }

pub invariant_of-result-2 : goal.invariant_of-result-2
invariant_of-result-2 c = record { sound = granted_sound c.args.limits c.granted-layout.result.limits c.args.entries.now c.args.values.now c.granted-layout.ensures.answer c.granted-layout.ensures.bytes }

pub returns : goal.returns
returns c =
    let e = granted_is c.args.limits c.granted-layout.result.limits c.args.entries.now c.args.values.now c.granted-layout.ensures.answer in
    record {
      fit = granted_sound c.args.limits c.granted-layout.result.limits c.args.entries.now c.args.values.now c.granted-layout.ensures.answer c.granted-layout.ensures.bytes;
      meaning = ap meaning_of e ∙ made_meaning c.args.limits c.args.entries.now c.args.values.now;
      bytes = e;
    }
