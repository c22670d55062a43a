use Rattle.std.proofs.Common.{◌++◌}
use Rattle.hg_table.proofs.Seeing.{put_first, never_full}
use Rattle.hg_table.proofs.insertion.start_with.Goals as goal

pub unreachable-requires : goal.unreachable-requires
unreachable-requires c = never_full c.init.new.page c.insert_parts.new.page (c.args.front.now ++ c.args.row.now) c.in-Ok-None.field-0 _
    c.in-Ok-None.field-0-is c.in-Ok-None.ensures.put (c.init.ensures.room _ c.requires.short)

pub returns : goal.returns
returns c = put_first c.init.new.page c.insert_parts.new.page (c.args.front.now ++ c.args.row.now) c.in-Ok-Some.field-0 _ c.in-Ok-Some.slot
    c.in-Ok-Some.field-0-is c.in-Ok-Some.ensures.put c.init.ensures.slotted c.init.ensures.none c.init.ensures.clean
