use Rattle.hg_machine.specs.Plain.Replies.{row, done}
use Rattle.hg_reply.specs.Plain.{name_of}
use Rattle.hg_reply.proofs.RowText.{two_put}
use Rattle.hg_reply.proofs.reply.Reply.say_last_row.Goals as goal

pub returns-clause-text : goal.returns-clause-text
returns-clause-text c =
    let name = name_of c.args.cursor.now in
    two_put c.args.self.now.text.items c.say_row.new.self.text.items _ (row name c.args.row.now) (done name) c.say_row.ensures.text c.say.ensures.text
