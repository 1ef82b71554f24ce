use Rattle.round_dive.proofs.SoundDives.{step_is_sound}
use Rattle.round_dive.proofs.laws.step_is_sound.Goals as goal

pub returns : goal.returns
returns c = step_is_sound
