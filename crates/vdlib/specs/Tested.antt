-- The single test for C and Rust.
use Rattle.std.specs.Prelude.{false, Ok, Err}
use Rattle.shapes.specs.Refusal.{refused_number, refused_place}
use Rattle.verdicts.specs.Verdict.{Single}
use Rattle.vdlib.specs.declared.Tested.{Tested}

-- C13.4: a refusal has its number and its place, a test that was made 0 for both
unfoldable pub tested_of : Single → Tested
tested_of (Err r) = record { number = refused_number r; place = refused_place r; holds = false }
tested_of (Ok holds) = record { number = 0; place = 0; holds = holds }
