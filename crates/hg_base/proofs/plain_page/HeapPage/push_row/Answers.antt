use Rattle.std.proofs.Common.{ap, sym, refl, arith, ◌+◌, [], length, append-nil}
use Rattle.hg_base.specs.PlainPageLaws.{got-kept, got-row, end-of, few-of}
use Rattle.hg_base.specs.declared.plain_page.PlainEntry.TheVariants.{Row}
use Rattle.hg_base.proofs.plain_page.HeapPage.push_row.Goals as goal

pub unreachable-requires : goal.unreachable-requires
unreachable-requires c =
    let few = few-of c.self.inside c.self.invariant in let e = end-of c.self.inside c.args.self.now c.self.invariant c.self.view_is in
    let r = c.requires in let room = c.self.invariant.byte_room in let o = c.self.inside.bytes.ok.0 in let full = c.in-Err.ensures.full in
    absurd (omega arith)

pub push_reserved-requires : goal.push_reserved-requires
push_reserved-requires c =
    let few = few-of c.self.inside c.self.invariant in let e = end-of c.self.inside c.args.self.now c.self.invariant c.self.view_is in
    let r = c.requires in let room = c.self.invariant.entry_room in let o = c.self.inside.entries.ok.0 in
    omega arith

pub invariant_of-self : goal.invariant_of-self
invariant_of-self c =
    let e = end-of c.self.inside c.args.self.now c.self.invariant c.self.view_is in let r = c.requires in let z = c.size.ensures in
    got-kept c.self.inside (record { entries = c.push_reserved.new.self; bytes = c.extend_from_slice.new.self; links = c.self.inside.links; end = c.self.inside.end + c.size.result })
    (Row (length c.args.payload.now) c.args.link) c.args.payload.now [] c.self.invariant
    (record {
      entries = c.push_reserved.ensures.items;
      bytes_more = c.in-Ok.ensures.items;
      links_more = sym (append-nil c.self.inside.links.items);
      end_more = ap (λ n. c.self.inside.end + n) z;
      entry_room = c.push_reserved.ensures.capacity;
      byte_room = c.in-Ok.ensures.capacity;
      link_room = omega arith;
    })
    refl refl (omega arith)

pub returns : goal.returns
returns c =
    let z = c.size.ensures in
    got-row c.self.inside (record { entries = c.push_reserved.new.self; bytes = c.extend_from_slice.new.self; links = c.self.inside.links; end = c.self.inside.end + c.size.result })
    c.args.self.now c.args.payload.now c.args.link (length c.args.payload.now) c.self.invariant c.self.view_is
    (record {
      entries = c.push_reserved.ensures.items;
      bytes_more = c.in-Ok.ensures.items;
      links_more = sym (append-nil c.self.inside.links.items);
      end_more = ap (λ n. c.self.inside.end + n) z;
      entry_room = c.push_reserved.ensures.capacity;
      byte_room = c.in-Ok.ensures.capacity;
      link_room = omega arith;
    })
    refl
