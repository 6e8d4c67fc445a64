-- What a branch on a call's answer says of the test that the call decides: `if call(..)` and `if !call(..)`, taken and left.
-- Assumes nothing.
use mathlib.Core.Path.{◌≡◌, sym, ◌∙◌}
use mathlib.Core.Bool.{Bool, true, false, not}
use borrow.Author.Tests.{not-true, not-false}

module _ {answer test : Bool} (is : answer ≡ test) where
  pub if_taken : answer ≡ true → test ≡ true
  if_taken e = sym is ∙ e

  pub if_left : answer ≡ false → test ≡ false
  if_left e = sym is ∙ e

  pub unless_taken : not answer ≡ true → test ≡ false
  unless_taken e = sym is ∙ not-true answer e

  pub unless_left : not answer ≡ false → test ≡ true
  unless_left e = sym is ∙ not-false answer e
