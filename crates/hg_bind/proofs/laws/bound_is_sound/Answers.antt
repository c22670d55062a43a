use Rattle.hg_bind.proofs.Staying.{bound_is_sound}
use Rattle.hg_bind.proofs.laws.bound_is_sound.Goals as goal

pub returns : goal.returns
returns c = bound_is_sound
