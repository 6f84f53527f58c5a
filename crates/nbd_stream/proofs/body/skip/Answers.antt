use Rattle.std.proofs.Common.{drop, length-drop, ◌≡◌, ◌<◌, ◌≤◌, ◌+◌, ℕ, List, ◌++◌, length, take, Option, refl, arith, length-append, length-take-le}
use Rattle.std.specs.Io.KnownBytes.{Consumes}
use Rattle.std.proofs.KnownBytes.{Consumes-trans}
use Rattle.nbd_stream.proofs.body.skip.Goals as goal

-- what was read past before, and the first n of a piece
more_skipped : (u m v : Option (List ℕ)) (bytes piece : List ℕ) (n : ℕ) → n ≤ length piece → Consumes u m bytes → Consumes m v (take n piece)
    → (x : List ℕ) × (length x ≡ length bytes + n) × Consumes u v x
more_skipped u m v bytes piece n within first second =
    (bytes ++ take n piece, omega (arith, length-append bytes (take n piece), length-take-le n piece within), Consumes-trans u m v bytes (take n piece) first second)

-- a piece of a buffer is as long as was asked
asked_for : (n : ℕ) (piece : List ℕ) → length piece ≡ 512 → n ≤ 512 → length (take n piece) ≡ n
asked_for n piece long within = length-take-le n piece (omega arith)

pub returns-then-filled-clause-reads : goal.returns-then-filled-clause-reads
returns-then-filled-clause-reads g c = λ buffer long.
    let past = c.loop-left.invariant in
    let filled = c.receive-filled.ensures in
    let within : c.min-size.result ≤ 512 = omega arith in
    let short : c.receive-filled.result.count < length c.receive-filled.new.buffer = filled.failed c.if-filled.true in
    let more = more_skipped _ _ _ past.1 c.receive-filled.new.buffer c.receive-filled.result.count filled.within past.3 filled.read in
    (refl, more.0, omega (arith, more.1, past.2, short, asked_for c.min-size.result c.loop-left.piece past.0 within), more.2)

pub returns-then-filled-size-clause-reads : goal.returns-then-filled-size-clause-reads
returns-then-filled-size-clause-reads g c = λ buffer long.
    let past = c.loop-left.invariant in
    let filled = c.receive-filled.ensures in
    let within : c.min-size.result ≤ 512 = omega arith in
    let all = asked_for c.min-size.result c.loop-left.piece past.0 within in
    let short : c.receive-filled.result.count < length c.receive-filled.new.buffer = omega (arith, all) in
    let more = more_skipped _ _ _ past.1 c.receive-filled.new.buffer c.receive-filled.result.count filled.within past.3 filled.read in
    (more.0, omega (arith, more.1, past.2, short, all), more.2, filled.end short c.if-filled.false)

pub loop-left-preserved : goal.loop-left-preserved
loop-left-preserved g c =
    let past = c.loop-left.invariant in
    let filled = c.receive-filled.ensures in
    let within : c.min-size.result ≤ 512 = omega arith in
    let all = asked_for c.min-size.result c.loop-left.piece past.0 within in
    let whole : c.receive-filled.result.count ≡ c.min-size.result = omega (arith, all) in
    let more = more_skipped _ _ _ past.1 c.receive-filled.new.buffer c.receive-filled.result.count filled.within past.3 filled.read in
    (omega (arith, length-append c.receive-filled.new.buffer (drop c.min-size.result c.loop-left.piece), length-drop c.min-size.result c.loop-left.piece, all, past.0), more.0, omega (arith, more.1, past.2, whole), more.2)

pub returns-then-filled-clause-fails : goal.returns-then-filled-clause-fails
returns-then-filled-clause-fails g c = (c.loop-left.reader, c.receive-filled.ensures.fails c.if-filled.true)
