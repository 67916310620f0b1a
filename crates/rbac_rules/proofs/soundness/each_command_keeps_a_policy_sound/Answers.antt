use Rattle.rbac_rules.proofs.SoundLemmas.{sound_founding, sound_effect}
use Rattle.rbac_rules.proofs.soundness.each_command_keeps_a_policy_sound.Goals as goal

pub returns : goal.returns
returns c = record { founding = sound_founding; command = sound_effect }
