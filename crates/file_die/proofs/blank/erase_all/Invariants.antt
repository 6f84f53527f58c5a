use Rattle.std.proofs.Common.{◌≡◌, ◌*◌, true}
use Rattle.file_die.proofs.BlankLemmas.{AreErased, StandFrom}
use Rattle.file_die.proofs.blank.erase_all.Given as goal

abbrev pub invariant-loop-block : goal.invariant-loop-block
invariant-loop-block g l = record {
  geometry : (g.S.Store.held l.store).geometry ≡ (g.S.Store.held l.fn.store).geometry;
  honest : g.S.Store.honest l.store ≡ g.S.Store.honest l.fn.store;
  failed : g.S.Store.failed l.store ≡ g.S.Store.failed l.fn.store;
  erased : g.S.Store.honest l.fn.store ≡ true → AreErased (g.S.Store.held l.fn.store).geometry l.block (g.S.Store.held l.store);
  later : g.S.Store.honest l.fn.store ≡ true → StandFrom (l.block * (g.S.Store.held l.fn.store).geometry.pages) (g.S.Store.held l.fn.store) (g.S.Store.held l.store);
}
