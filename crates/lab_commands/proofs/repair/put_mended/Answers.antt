use Rattle.std.proofs.Common.{refl, inl, inr, ap, subst, ◌∙◌, suc, option_map}
use Rattle.std.specs.Prelude.{IfOk, IfErr}
use Rattle.lab_commands.specs.Repair.{HasPutMends, IsRepairUnput}
use Rattle.lab_commands.proofs.HandedLemmas.{err_more, ok_more, on_err_more, on_ok_more}
use Rattle.lab_commands.proofs.RepairLemmas.{unasked}
use Rattle.lab_commands.proofs.UndoneLemmas.{handed}
use Rattle.lab_commands.proofs.repair.put_mended.Goals as goal

pub returns-in_err-said : goal.returns-in_err-said
returns-in_err-said g c =
    rw (handed c.from_residual.result _ c.from_residual.ensures.1) (record { put = tt; fault = unasked _ c.args.words.now _ _ _ c.in_err-said.ensures.fault; kept = refl; opened = tt })

pub returns-in_err-allow : goal.returns-in_err-allow
returns-in_err-allow g c =
    let said = c.in_ok-said.said in
    let asked = c.in_ok-said.ensures.ok in
    let handing = c.from_residual-in_err-allow in
    rw (handed handing.result _ handing.ensures.1) (record {
      put = tt;
      fault = inr (said.0, asked.geometry_is, inr (said.1.rows, asked.rows_are, inr (said.1.bits, asked.bits_are, inl c.in_err-allow.ensures.fault)));
      kept = ap g.F.LabFiles.kept c.allow.ensures.same;
      opened = tt;
    })

pub returns : goal.returns
returns g c =
    let words = c.args.words.now in
    let said = c.in_ok-said.said in
    let asked = c.in_ok-said.ensures.ok in
    let allowed = c.in_ok-allow.ensures in
    let after = c.put_mends.new.files in
    let done = c.put_mends.result in
    let put = subst (λ f. IfOk done (λ told. HasPutMends (g.F.LabFiles.answers f) words (g.F.LabFiles.kept f) (g.F.LabFiles.kept after) said.0 said.1 told.tries told.mends.items)) allowed.same c.put_mends.ensures.put in
    let fault = subst (λ f. IfErr done (IsRepairUnput (g.F.LabFiles.answers f) words said.0 (g.F.LabFiles.opened f) (g.F.LabFiles.opened after))) allowed.same c.put_mends.ensures.fault in
    record {
      put = ok_more _ _ done put (λ told has. record {
        put = record {
          g = said.0;
          rows = said.1.rows;
          bits = said.1.bits;
          pieces = has.pieces;
          geometry_is = asked.geometry_is;
          rows_are = asked.rows_are;
          bits_are = asked.bits_are;
          allowed = allowed.ok;
          made = has.made;
          put = has.put;
        };
        tried = has.tried;
      });
      fault = err_more _ _ done fault (λ told why. inr (said.0, asked.geometry_is, inr (said.1.rows, asked.rows_are, inr (said.1.bits, asked.bits_are, inr (allowed.ok, why)))));
      opened = on_ok_more _ _ done c.put_mends.ensures.opened (λ is. is ∙ ap (λ f. option_map suc (g.F.LabFiles.opened f)) allowed.same);
      kept = on_err_more _ _ done c.put_mends.ensures.kept (λ is. is ∙ ap g.F.LabFiles.kept allowed.same);
    }
