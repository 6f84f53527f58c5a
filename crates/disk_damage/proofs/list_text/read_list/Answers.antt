use Rattle.std.proofs.Common.{◌≡◌, ◌+◌, ◌∙◌, ◌++◌, ◌∷◌, [], ap, arith, length}
use Rattle.disk_damage.proofs.NumberLemmas.{read_fault}
use Rattle.disk_damage.proofs.list_text.read_list.Goals as goal

pub returns-in-Some-clause-fault : goal.returns-in-Some-clause-fault
returns-in-Some-clause-fault c =
    let front = c.in-Some.front.now in
    let last : c.in-Some.last.now ≡ 10 = omega (arith, c.if-last-eq10.true) in
    let long : length c.args.bytes.now ≡ c.args.sectors + 1 = omega (arith, c.if-bytes-from.false, c.from.ensures) in
    read_fault c.letters.result c.args.bytes.now front c.args.sectors (c.in-Some.ensures.cases.0 ∙ ap (λ n. front ++ (n ∷ [])) last) long c.letters.ensures.letter c.letters.ensures.length
