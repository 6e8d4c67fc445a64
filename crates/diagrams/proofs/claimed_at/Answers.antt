-- `diagrams::claimed_at` meets its contract, by where `truths` ends.
use mathlib.Core.Path.{◌≡◌, refl, ap, ◌∙◌}
use Rattle.std.specs.Result.{result_unwrap_or}
use Rattle.std.specs.declared.result.Result.TheVariants.{Ok, Err}
use Rattle.records.specs.Walk.{Walked}
use Rattle.records.specs.Place.{place_of}
use Rattle.diagrams.specs.Truth.{claimed_at}
use Rattle.diagrams.proofs.claimed_at.Goals as goal

-- a refused walk is placed at 0
or_zero : (w : Walked) → result_unwrap_or w 0 ≡ place_of w
or_zero (Ok end) = refl
or_zero (Err refusal) = refl

pub returns : goal.returns
unfolding claimed_at
returns c = c.unwrap_or.ensures ∙ or_zero c.truths.result ∙ ap place_of c.truths.ensures
