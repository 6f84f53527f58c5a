use Rattle.std.proofs.Common.{length, ◌∙◌, refl}
use Rattle.std.proofs.lemmas.Bool.{false≢true}
use Rattle.onfi_cycles.specs.Cycles.{DataOut}
use Rattle.nand_die.proofs.RoundLemmas.{blown_call, never_err, never_ok, passed_call}
use Rattle.nand_die.proofs.buses.CycleFuseBus.data_out.Goals as goal

pub returns-then-blows : goal.returns-then-blows
returns-then-blows g c =
    let h = blown_call g.B.Bus.failed g.B.Bus.called c.args.self.now c.blows.new.self (DataOut (length c.args.bytes.now)) c.args.bytes.now c.if-blows.ensures.is c.if-blows.ensures.new in
    record {
      kept = λ whole. absurd (false≢true whole);
      out = tt;
      called = h.called;
      cycle = λ whole. absurd (false≢true whole);
      recorded = tt;
      geometry = λ whole. absurd (false≢true whole);
      whole = tt;
      honest = refl;
      calm = refl;
      failed = h.rises;
      rose = h.rose;
      settled = tt;
      uncounted = λ whole. absurd (false≢true whole);
    }

pub returns : goal.returns
returns g c =
    let on = c.data_out.ensures in
    let h = passed_call g.B.Bus.failed g.B.Bus.called c.args.self.now _ c.data_out.new.self (DataOut (length c.args.bytes.now)) c.data_out.result c.data_out.new.bytes c.if-blows.ensures.is (c.self.view_is ∙ c.if-blows.ensures.new) on.called on.failed on.rose in
    record {
      kept = never_err _ _;
      out = never_ok _ _;
      called = h.called;
      cycle = λ whole. absurd (false≢true whole);
      recorded = never_ok _ _;
      geometry = λ whole. absurd (false≢true whole);
      whole = never_ok _ _;
      honest = refl;
      calm = refl;
      failed = h.rises;
      rose = h.rose;
      settled = never_ok _ _;
      uncounted = never_err _ _;
    }
