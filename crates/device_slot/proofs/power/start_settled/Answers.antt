use Rattle.std.proofs.Common.{refl}
use Rattle.std.proofs.lemmas.Result.{err_from_is_err_and}
use Rattle.device_slot.proofs.PowerLemmas.{if_brought, if_unsettled, if_back_on, back_same, stale_more, unsettled_with}
use Rattle.device_slot.proofs.StartedLemmas.{if_started_flushed, if_tried_flushed}
use Rattle.device_slot.proofs.power.start_settled.Goals as goal

pub returns-clause-brings : goal.returns-clause-brings
returns-clause-brings g c =
    let s = g.N.PageSource in
    if_brought s.view c.args.nand c.in_ok-nand.nand c.args.geometry.now c.args.capacity c.in_ok-nand.ensures.back c.in_ok-nand.ensures.array c.start_either.result c.start_either.ensures.brings

pub returns-clause-fault : goal.returns-clause-fault
returns-clause-fault g c =
    let s = g.N.PageSource in
    if_unsettled s.view c.args.nand c.in_ok-nand.nand c.args.geometry.now c.args.capacity c.in_ok-nand.ensures.back c.in_ok-nand.ensures.array c.start_either.result
    (λ h. stale_more c.args.geometry.now c.args.capacity c.args.stale (s.view.flash c.args.nand).image c.requires.more (c.requires.wanted h)) c.start_either.ensures.fault

pub returns-clause-given : goal.returns-clause-given
returns-clause-given g c =
    let s = g.N.PageSource in
    if_back_on s.view c.args.nand c.in_ok-nand.nand c.in_ok-nand.ensures.back c.start_either.result c.start_either.ensures.given

pub returns-in_err-nand-clause-fault : goal.returns-in_err-nand-clause-fault
returns-in_err-nand-clause-fault g c =
    let s = g.N.PageSource in
    let p = err_from_is_err_and c.from_residual.result c.from_residual.ensures.1 in
    rw (p.1, p.2) (unsettled_with s.view c.args.nand c.args.nand c.args.geometry.now c.args.capacity c.args.stale c.requires.more (back_same s.view c.args.nand) (λ h. refl) c.requires.wanted
    c.in_err-nand.field-0.0 c.in_err-nand.ensures.fault)

pub returns-clause-started : goal.returns-clause-started
returns-clause-started g c =
    let s = g.N.PageSource in
    if_started_flushed s.view c.args.nand c.in_ok-nand.nand c.args.geometry.now c.args.capacity c.args.stale c.requires.more c.requires.most c.requires.wanted c.in_ok-nand.ensures.flushes
    c.start_either.result c.in_ok-nand.ensures.back c.start_either.ensures.brings c.start_either.ensures.looked c.start_either.ensures.pages

pub returns-clause-tried : goal.returns-clause-tried
returns-clause-tried g c =
    if_tried_flushed g.N.PageSource.view c.args.geometry.now c.args.nand c.in_ok-nand.nand c.args.stale c.in_ok-nand.ensures.flushes c.start_either.result c.start_either.ensures.looked_given

pub returns-in_err-nand-clause-tried : goal.returns-in_err-nand-clause-tried
returns-in_err-nand-clause-tried g c =
    let p = err_from_is_err_and c.from_residual.result c.from_residual.ensures.1 in
    rw (p.1, p.2) c.in_err-nand.ensures.tried
