use Rattle.std.proofs.Common.{◌∙◌, ap, sym, refl, arith, ◌+◌, ◌-◌, ◌++◌, [], take, replicate, None, append-nil}
use Rattle.hg_base.specs.HeapContent.{no_links}
use Rattle.hg_base.specs.PlainPageLaws.{got-kept, got-directory, end-of, few-of, length-no_links, lengthened}
use Rattle.hg_base.specs.declared.plain_page.PlainEntry.TheVariants.{Directory}
use Rattle.hg_base.proofs.plain_page.HeapPage.push_directory.Goals as goal

pub overflow_add-all : goal.overflow_add-all
overflow_add-all c =
    let few = few-of c.self.inside c.self.invariant in let e = end-of c.self.inside c.args.self.now c.self.invariant c.self.view_is in
    let r = c.requires in let k = length-no_links c.args.count in
    let n = c.len.ensures in let o = c.self.inside.links.ok.0 in let b = c.self.invariant.below in
    omega arith

pub unreachable-requires : goal.unreachable-requires
unreachable-requires c =
    let few = few-of c.self.inside c.self.invariant in let e = end-of c.self.inside c.args.self.now c.self.invariant c.self.view_is in
    let r = c.requires in let k = length-no_links c.args.count in
    let room = c.self.invariant.link_room in let o = c.self.inside.links.ok.0 in let full = c.in-Err.ensures.full in let n = c.len.ensures in
    absurd (omega arith)

pub push_reserved-requires : goal.push_reserved-requires
push_reserved-requires c =
    let few = few-of c.self.inside c.self.invariant in let e = end-of c.self.inside c.args.self.now c.self.invariant c.self.view_is in
    let r = c.requires in let k = length-no_links c.args.count in
    let room = c.self.invariant.entry_room in let o = c.self.inside.entries.ok.0 in
    omega arith

pub size-requires : goal.size-requires
size-requires c =
    let few = few-of c.self.inside c.self.invariant in let e = end-of c.self.inside c.args.self.now c.self.invariant c.self.view_is in
    let r = c.requires in let k = length-no_links c.args.count in
    omega arith

pub overflow_add-self : goal.overflow_add-self
overflow_add-self c =
    let few = few-of c.self.inside c.self.invariant in let e = end-of c.self.inside c.args.self.now c.self.invariant c.self.view_is in
    let r = c.requires in let k = length-no_links c.args.count in
    let z = c.size.ensures in
    omega arith

pub invariant_of-self : goal.invariant_of-self
invariant_of-self c =
    let few = few-of c.self.inside c.self.invariant in let e = end-of c.self.inside c.args.self.now c.self.invariant c.self.view_is in
    let r = c.requires in let k = length-no_links c.args.count in
    let z = c.size.ensures in
    got-kept c.self.inside (record { entries = c.push_reserved.new.self; bytes = c.self.inside.bytes; links = c.resize.new.self; end = c.self.inside.end + c.size.result })
    (Directory c.args.count) [] (no_links c.args.count) c.self.invariant
    (record {
      entries = c.push_reserved.ensures.items;
      bytes_more = sym (append-nil c.self.inside.bytes.items);
      links_more = c.in-Ok.ensures.items
          ∙ ap (λ n. take (n + c.args.count) c.self.inside.links.items ++ replicate (n + c.args.count - c.self.inside.links.len) None) c.len.ensures
          ∙ lengthened c.self.inside.links.items c.self.inside.links.len c.args.count c.self.inside.links.ok.0;
      end_more = ap (λ n. c.self.inside.end + n) z;
      entry_room = c.push_reserved.ensures.capacity;
      byte_room = omega arith;
      link_room = c.in-Ok.ensures.capacity;
    })
    refl (sym k) (omega arith)

pub returns : goal.returns
returns c =
    let z = c.size.ensures in
    got-directory c.self.inside (record { entries = c.push_reserved.new.self; bytes = c.self.inside.bytes; links = c.resize.new.self; end = c.self.inside.end + c.size.result })
    c.args.self.now (no_links c.args.count) c.args.count c.self.invariant c.self.view_is
    (record {
      entries = c.push_reserved.ensures.items;
      bytes_more = sym (append-nil c.self.inside.bytes.items);
      links_more = c.in-Ok.ensures.items
          ∙ ap (λ n. take (n + c.args.count) c.self.inside.links.items ++ replicate (n + c.args.count - c.self.inside.links.len) None) c.len.ensures
          ∙ lengthened c.self.inside.links.items c.self.inside.links.len c.args.count c.self.inside.links.ok.0;
      end_more = ap (λ n. c.self.inside.end + n) z;
      entry_room = c.push_reserved.ensures.capacity;
      byte_room = omega arith;
      link_room = c.in-Ok.ensures.capacity;
    })
    (sym (length-no_links c.args.count))
