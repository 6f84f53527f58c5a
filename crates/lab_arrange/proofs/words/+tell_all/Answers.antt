use Rattle.std.proofs.Common.{◌≡◌, Some}
use Rattle.lab_arrange.proofs.WordLemmas.{bad_first, bad_last, bad_later, cut_here, told_last, told_later, uncut}
use Rattle.lab_arrange.proofs.words.+tell_all.Goals as goal

pub returns-in_err-tell-in-Some-clause-bad : goal.returns-in_err-tell-in-Some-clause-bad
returns-in_err-tell-in-Some-clause-bad t c =
    let some : c.split_once.result ≡ Some (c.in-Some.word, c.in-Some.rest) = cc in
    let cut = cut_here c.args.text.now c.split_once.result c.in-Some.word c.in-Some.rest c.split_once.ensures.cases some in
    bad_first c.args.so_far c.args.text.now c.in-Some.word.now c.in-Some.rest.now _ c.from_residual.result cut c.in_err-tell-in-Some.ensures.bad c.from_residual.ensures.1

pub returns-in_ok-tell-in-Some-clause-ok : goal.returns-in_ok-tell-in-Some-clause-ok
returns-in_ok-tell-in-Some-clause-ok t c =
    let some : c.split_once.result ≡ Some (c.in-Some.word, c.in-Some.rest) = cc in
    let cut = cut_here c.args.text.now c.split_once.result c.in-Some.word c.in-Some.rest c.split_once.ensures.cases some in
    told_later c.args.so_far c.in_ok-tell-in-Some.field-0 c.args.text.now c.in-Some.word.now c.in-Some.rest.now c.tell_all.result cut c.in_ok-tell-in-Some.ensures.ok c.tell_all.ensures.ok

pub returns-in_ok-tell-in-Some-clause-bad : goal.returns-in_ok-tell-in-Some-clause-bad
returns-in_ok-tell-in-Some-clause-bad t c =
    let some : c.split_once.result ≡ Some (c.in-Some.word, c.in-Some.rest) = cc in
    let cut = cut_here c.args.text.now c.split_once.result c.in-Some.word c.in-Some.rest c.split_once.ensures.cases some in
    bad_later c.args.so_far c.in_ok-tell-in-Some.field-0 c.args.text.now c.in-Some.word.now c.in-Some.rest.now c.tell_all.result cut c.in_ok-tell-in-Some.ensures.ok c.tell_all.ensures.bad

pub returns-in-None-clause-ok : goal.returns-in-None-clause-ok
returns-in-None-clause-ok t c = told_last c.args.so_far c.args.text.now c.tell-in-None.result c.tell-in-None.ensures.ok

pub returns-in-None-clause-bad : goal.returns-in-None-clause-bad
returns-in-None-clause-bad t c = bad_last c.args.so_far c.args.text.now c.tell-in-None.result (uncut c.args.text.now c.split_once.result c.split_once.ensures.cases c.in-None.is) c.tell-in-None.ensures.bad
