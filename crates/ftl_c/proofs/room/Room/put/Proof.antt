-- `put` moves the disk into the room.
use Rattle.std.proofs.Common.{◌≡◌, List, [], ◌∷◌, ◌++◌, refl, sym, ap, ◌∙◌, Option, Some, None}
use Rattle.std.proofs.raw_atomic.Walks.{proved_at}
use Rattle.std.proofs.VecSteps.Shapes.{after}
use Rattle.std.proofs.alloc.Calls.{Goes-blank}
use Rattle.std.proofs.cell.Inside.{one}
use borrow.Table.OneValue.{part_in}
use base.Fraction.{full_share}
use base.Logic.{id⊢}
use base.Fml.{ftrue, flft}
use mir.Val.{Val, vptr, vunit}
use contract.Running.{tables}
use prog.Wp.{WpFn}
use types.Kit.{‵, raw, ◌⊛◌, prop, at_ret, ◌$◌, ◌∵◌, !, qed, done, move, keep, use2, split, join, fsplit, fsplit3, fjoin, feq_i, rewrite, regoal, suffices, frame, group}
use types.Run.{enter, of_opd, load, init, stop, fld, unit_lit, assigns_last, first, blocks, exec, returns}
use types.ByLocal.{alloc_all, pass_all, free_all, look_at, get, through, sets, env}
use types.Part.{whole, sub, look_in}
use denote.RattleType.{owns}
use denote.Laws.{Is, shows}
use denote.Memory.{cell_at, lone}
use denote.RawPtr.{Ptr, block_ptr, lies_at, room_at, in_a_block}
use denote.Signature.{plain, types_at}
use denote.Steps.{nothing, opens, closes, peeks, heard}
use denote.Triple.Walked.{Stays, walk_of, says, stay_ref, stay_dropped, Goes-ref, ends_at}
use Rattle.ftl_disk.specs.declared.disk.FtlDisk.{FtlDisk}
use Rattle.ftl_disk.specs.contracts.disk.FtlDisk.{the_row as R}
use Rattle.ftl_disk.proofs.disk.FtlDisk.TheLaws.{the_row_laws}
use Rattle.ftl_c.specs.Room.{room_or_disk}
use Rattle.ftl_c.specs.contracts.room.Room.{the_row as B}
use Rattle.ftl_c.specs.contracts.room.Room.put as f
use Rattle.ftl_c.proofs.room.Room.TheLaws.{lowers}
use Rattle.ftl_c.proofs.room.Room.put.Statement.{statement}
use Rattle.ftl_c.proofs.room.Room.put.Code as code

abbrev stayed : Stays f.ended.signature.params f.ended.kept
stayed = (stay_ref (0 ∷ []) tt (plain (λ _. B)), (stay_dropped (plain (λ _. R)) f.ended.kept.1.0, tt))

pub put_spec : {M : Type 1} → statement M
put_spec 𝓤 𝓛 𝓜 𝓡 wired =
    let c = f.clauses 𝓛 𝓜.mem 𝓡.returns in let W = walk_of 𝓛 f.ended stayed c in let 𝓣 = tables 𝓤 𝓛.H 𝓜 𝓡 𝓡.env in
    proved_at 𝓛 f.ended stayed c 𝓜 𝓡 (Goes-ref 𝓛 1 0 tt (plain (λ _. B)), (Goes-blank 𝓛 1 (plain (λ _. R)) f.ended.kept.1.0 (λ κs x w. tt), tt))
    f.Key.name code.function (code.unfolded 𝓤 𝓛.H 𝓜 𝓡 wired) (λ z are.
    let κ = z.0.0.0 in let q = z.0.1.0 in let d = z.0.3.1.0 in let rb = z.0.3.0.ref_ptr.0 in let ro = z.0.3.0.ref_ptr.1 in let h = z.0.3.0.now in
    qed 𝓛 (((‵ (flft κ q) ⊛ ‵ ftrue) ⊛ ‵ (owns (types_at f.ended.signature.params z.0.0) z.0.3 z.0.4)) ∷ raw ((c z.0.0 z.0.3).requires z.1) ∷ []) ∵
    move ! (1 ∷ []) $ heard ! (h.disk ≡ None) (λ empty. split ! $ move ! (1 ∷ []) $ fsplit ! $ move ! (1 ∷ []) $ fsplit ! $
    peeks ! R (Is R) (shows 𝓛 R) d z.0.4.1.0 (λ its.
    let v = one (lone R.mir) z.0.4.1.0 ((the_row_laws.lawful 𝓛).typed d z.0.4.1.0 its) in
    rewrite ! 0 (λ (us : List Val). ‵ (R.own_val d us)) v.1 refl $
    -- [the disk; nothing; the reference; the tokens]
    move ! (2 ∷ 3 ∷ []) $ fsplit3 ! $ move ! (3 ∷ []) $ split ! $ move ! (3 ∷ 4 ∷ 0 ∷ []) $
    -- [two parts of the reference; the token; nothing; the reference's machine value; the disk; nothing]
    regoal ! (λ (us : List Val). prop (WpFn 𝓤 𝓛.H 𝓣.C 𝓣.Λ code.function us (W.post z))) (λ i. are.0.0 i ++ (v.1 i ++ [])) refl $
    enter ! 𝓣.C 𝓣.Λ code.function (vptr rb ro ∷ v.0 ∷ []) (W.post z) $ alloc_all ! (λ l. pass_all ! refl ((tt, tt), (v.2, tt)) $
    opens ! tt B rb ro (λ us.
    move ! (1 ∷ []) $ peeks ! B _ (shows 𝓛 B) h us (λ is. fsplit ! $ move ! (1 ∷ []) $
    rewrite ! 0 (λ (o : Option FtlDisk). ‵ (room_or_disk h.at o)) empty refl $
    in_a_block ! h.at (λ p. room_at R p) (id⊢ 𝓤 _) (λ b o e.
    let word = lowers.val_is h us is ∙ ap (λ (p : Ptr). lowers.lowered (record h { at = p }) ∷ []) e in
    let Cell = λ (ws : List Val). ‵ (cell_at full_share B.mir ws rb ro) in
    rewrite ! 2 Cell word refl $
    -- [the room; what the field owns; the struct's cell; the open borrow, in three entries]
    first ! $ blocks ! $
    sets ! (of_opd ! (load ! (through ! refl (fld ! refl (stop !))) (look_in ! 2 (sub ! 0 refl (whole !))))) refl (tt, tt) $
    sets ! (of_opd ! (get ! refl)) refl v.2 $
    assigns_last ! (of_opd ! (get ! refl)) (through ! refl (stop !)) (init ! 0 refl v.2) $
    exec ! 𝓣.C 𝓣.Λ (env code.Mir.locals l) (after 1 (code.function).body) (at_ret _ (W.post z)) $
    sets ! (of_opd ! (unit_lit !)) refl (tt, tt) $
    -- [the cell of the disk; what the field owns; the struct's cell; the open borrow, in three entries; nothing; the reference's machine value; the disk; nothing]
    move ! (0 ∷ 8 ∷ []) $ use2 𝓛 (‵ (lies_at R full_share (block_ptr b o) d)) (part_in 𝓛 R refl full_share d b o v.0) $
    rewrite ! 0 (λ (p : Ptr). ‵ (lies_at R full_share p d)) (sym e) refl $ rewrite ! 2 Cell (sym word) refl $
    move ! (1 ∷ []) $ fjoin ! $ move ! (1 ∷ []) $ closes ! tt B (record h { disk = Some d }) us rb ro $
    -- [two parts of the reference; the token; nothing; the reference's machine value; nothing]
    returns ! (look_at ! 0 refl) $ free_all ! refl $ keep ! (4 ∷ 0 ∷ 1 ∷ 2 ∷ []) $
    suffices ! _ (ends_at 𝓛 f.ended stayed c z vunit tt (record h { disk = Some d }, (_, tt)) (tt, (tt, tt))) $ says ! refl $
    group ! 3 $ nothing ! $ nothing ! $ join ! $ move ! (1 ∷ 0 ∷ []) $ join ! $ nothing ! $ move ! (2 ∷ 0 ∷ []) $ join ! $ frame ! $ frame ! $
    feq_i ! _ (vunit ∷ []) _ refl $ done !)))))))
