use Rattle.std.proofs.Common.{length}
use Rattle.onfi_cycles.specs.Cycles.{status_of}
use Rattle.nand_die.proofs.PutLemmas.{name_put, name_short, none_put, page_put, page_short, zeros_put, zeros_short}
use Rattle.nand_die.proofs.data_out.put_out.Goals as goal

pub returns-in-Nothing : goal.returns-in-Nothing
returns-in-Nothing c = record { due = tt; within = tt; same_page = tt; bytes = tt; refused = none_put c.args.geometry.now c.args.source (length c.args.to.now) c.args.to.now c.in-Nothing.is }

pub returns-in-Some : goal.returns-in-Some
returns-in-Some c =
    let h = page_put c.args.geometry.now c.args.page.now (status_of c.args.passed) c.args.source c.in-Page.row c.in-Page.column c.in-Some.next (length c.args.to.now) c.put_part.new.to
    c.requires.size c.requires.within c.in-Page.is c.in-Some.ensures.some in
    record { due = h.due; within = h.within; same_page = h.same_page; bytes = h.bytes; refused = tt }

pub returns-in-None : goal.returns-in-None
returns-in-None c = record {
  due = tt;
  within = tt;
  same_page = tt;
  bytes = tt;
  refused = page_short c.args.geometry.now c.args.page.now c.args.source c.in-Page.row c.in-Page.column (length c.args.to.now) c.args.to.now c.put_part.new.to c.requires.size c.in-Page.is c.in-None.ensures.none;
}

pub returns-in-Some-put_part : goal.returns-in-Some-put_part
returns-in-Some-put_part c =
    let h = name_put c.args.geometry.now c.args.page.now (status_of c.args.passed) c.args.source c.in-Identity.taken c.in-Some-put_part.next (length c.args.to.now) c.put_part-in-Identity.new.to c.in-Identity.is c.in-Some-put_part.ensures.some in
    record { due = h.due; within = h.within; same_page = h.same_page; bytes = h.bytes; refused = tt }

pub returns-in-None-put_part : goal.returns-in-None-put_part
returns-in-None-put_part c =
    let h = name_short c.args.geometry.now c.args.source c.in-Identity.taken (length c.args.to.now) c.args.to.now c.put_part-in-Identity.new.to c.requires.within c.in-Identity.is c.in-None-put_part.ensures.none in
    record { due = tt; within = tt; same_page = tt; bytes = tt; refused = h }

pub returns-in-Some-put_part-2 : goal.returns-in-Some-put_part-2
returns-in-Some-put_part-2 c =
    let h = zeros_put c.args.geometry.now c.args.page.now (status_of c.args.passed) c.args.source c.in-Zeros.taken c.in-Some-put_part-2.next (length c.args.to.now) c.put_part-in-Zeros.new.to c.in-Zeros.is c.in-Some-put_part-2.ensures.some in
    record { due = h.due; within = h.within; same_page = h.same_page; bytes = h.bytes; refused = tt }

pub returns-in-None-put_part-2 : goal.returns-in-None-put_part-2
returns-in-None-put_part-2 c =
    let h = zeros_short c.args.geometry.now c.args.source c.in-Zeros.taken (length c.args.to.now) c.args.to.now c.put_part-in-Zeros.new.to c.requires.within c.in-Zeros.is c.in-None-put_part-2.ensures.none in
    record { due = tt; within = tt; same_page = tt; bytes = tt; refused = h }
