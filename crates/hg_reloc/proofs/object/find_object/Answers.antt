use Rattle.std.proofs.Common.{refl}
use Rattle.hg_reloc.proofs.Finding.{finds_among}
use Rattle.hg_reloc.proofs.object.find_object.Goals as goal

pub returns-in-Some-clause-among : goal.returns-in-Some-clause-among
returns-in-Some-clause-among c =
    finds_among c.args.page.now c.args.offset _ refl refl c.get_u16.ensures.value c.get_u64.ensures.value
