-- What calls on a die leave as it was, where they do nothing but write pages.
use Rattle.std.specs.Prelude.{◌≡◌, ◌≤◌}
use Rattle.page_layout.specs.View.{View}

-- CALLS THAT ONLY WRITE: they read and erased nothing, the count of faults did not fall, and the die is as honest and as calm as before
pub record OnlyWrites {N : Type 0} (view : View N) (old new : N) : Type 0 where
  pub geometry_was : (view.flash new).geometry ≡ (view.flash old).geometry
  pub honest_was : view.honest new ≡ view.honest old
  pub calm_was : view.calm new ≡ view.calm old
  pub reads_were : view.reads new ≡ view.reads old
  pub erases_were : view.erases new ≡ view.erases old
  pub failed_was : view.failed old ≤ view.failed new
