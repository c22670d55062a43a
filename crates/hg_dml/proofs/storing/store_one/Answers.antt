use Rattle.std.proofs.Common.{inl, inr}
use Rattle.hg_table.specs.Calls.{none_mine}
use Rattle.hg_table.specs.TableLaws.{chain_stays}
use Rattle.hg_dml.proofs.PutLaws.{none-mine}
use Rattle.hg_dml.proofs.StoreLaws.{reads-so, no-record, wrong-so, spelled-so, has-table-stays}
use Rattle.hg_dml.proofs.storing.store_one.Goals as goal

pub returns-in-Ok-false-clause-err : goal.returns-in-Ok-false-clause-err
returns-in-Ok-false-clause-err g c =
    let r = c.in-Ok-false.ensures in
    inr (inl (record {
      steady = r.steady;
      taken = r.taken;
      cause = r.cause;
      is = c.damaged.ensures;
      wrong = inl (no-record (g.S.Pages.state c.args.space.now) c.args.run.now c.args.at.now c.read.new.at c.read.new.out.items c.in-Ok-false.field-0 c.in-Ok-false.field-0-test r.read);
    }))

pub returns-then-not-take_row-clause-err : goal.returns-then-not-take_row-clause-err
returns-then-not-take_row-clause-err g c =
    let r = c.in-Ok-true.ensures in
    inr (inl (record {
      steady = r.steady;
      taken = r.taken;
      cause = r.cause;
      is = c.damaged-then-not-take_row.ensures;
      wrong = inr (record {
        to = c.read.new.at;
        bytes = c.read.new.out.items;
        reads = reads-so (g.S.Pages.state c.args.space.now) (g.S.Pages.state c.read.new.space) c.args.run.now c.args.at.now c.read.new.at c.read.new.out.items c.in-Ok-true.field-0 c.in-Ok-true.field-0-test
            r.steady r.taken r.cause r.on_pages r.read;
        wrong = wrong-so c.args.columns.now c.read.new.out.items c.as_slice.result.now c.take_row.new.row c.take_row.result c.as_slice.ensures.value c.if-not-take_row.true c.take_row.ensures.known;
      });
    }))

pub put_one-requires-clause-chain : goal.put_one-requires-clause-chain
put_one-requires-clause-chain g c =
    (c.requires.chain.0, chain_stays none_mine (g.S.Pages.state c.args.space.now) (g.S.Pages.state c.read.new.space) c.args.data.now c.requires.chain.0 c.in-Ok-true.ensures.steady (none-mine c.requires.chain.0) c.requires.chain.1)

pub put_one-requires-clause-whole : goal.put_one-requires-clause-whole
put_one-requires-clause-whole g c =
    has-table-stays (g.S.Pages.state c.args.space.now) (g.S.Pages.state c.read.new.space) c.args.data.now c.in-Ok-true.ensures.steady c.requires.whole

pub returns-in-Ok-clause-ok : goal.returns-in-Ok-clause-ok
returns-in-Ok-clause-ok g c =
    let r = c.in-Ok-true.ensures in
    let p = c.in-Ok.ensures {u = tt} in
    record {
      mid = g.S.Pages.state c.read.new.space;
      bytes = c.read.new.out.items;
      reads = reads-so (g.S.Pages.state c.args.space.now) (g.S.Pages.state c.read.new.space) c.args.run.now c.args.at.now c.read.new.at c.read.new.out.items c.in-Ok-true.field-0 c.in-Ok-true.field-0-test
          r.steady r.taken r.cause r.on_pages r.read;
      row = c.take_row.new.row;
      storable = c.if-not-take_row.ensures.storable;
      spelled = spelled-so c.args.columns.now c.read.new.out.items c.as_slice.result.now c.take_row.new.row c.take_row.result c.as_slice.ensures.value c.take_row.ensures.known;
      place = p.ok.0;
      n = p.ok.1;
      puts = p.ok.2;
      cause = p.cause;
    }

pub returns-in-Err-put_one-clause-err : goal.returns-in-Err-put_one-clause-err
returns-in-Err-put_one-clause-err g c =
    let r = c.in-Ok-true.ensures in
    let p = c.in-Err-put_one.ensures {u = tt} in
    inr (inr (record {
      mid = g.S.Pages.state c.read.new.space;
      bytes = c.read.new.out.items;
      reads = reads-so (g.S.Pages.state c.args.space.now) (g.S.Pages.state c.read.new.space) c.args.run.now c.args.at.now c.read.new.at c.read.new.out.items c.in-Ok-true.field-0 c.in-Ok-true.field-0-test
          r.steady r.taken r.cause r.on_pages r.read;
      steady = p.err_steady;
      taken = p.err_taken;
      cause = p.cause;
      fails = p.fault;
      named = p.page;
    }))
