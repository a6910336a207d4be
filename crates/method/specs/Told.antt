-- What a refusal and a request say of themselves, as code has it.
use Rattle.std.specs.Prelude.{ℕ, cond, List, ◌++◌, map, take, replicate, eqb, Option, Some, None, Result, Ok, Err}
use Rattle.method.specs.declared.Request.{Request}
use Rattle.method.specs.declared.Method.{Method}
use Rattle.method.specs.declared.Method.TheVariants.{HighXOfY, AverageXOfY}
use Rattle.method.specs.declared.Refusal.{Refusal}
use Rattle.method.specs.declared.Refusal.TheVariants.{BadRequest}
use Rattle.method.specs.Adjustment.{is_average}

-- numbers in two places, none after the last
abbrev pub in_two : List ℕ → List (Option ℕ)
in_two numbers = take 2 (map Some numbers ++ replicate 2 None)

-- 02, order 3: "0 High X of Y, 1 this one", "an unknown method is 4"
abbrev pub method_numbered : ℕ → Result Method Refusal
method_numbered number = cond (eqb number 0) (Ok HighXOfY) (cond (eqb number 1) (Ok AverageXOfY) (Err BadRequest))

-- the method that a request is worked by, whatever its number
abbrev pub asked_of : Request → Method
asked_of r = cond (is_average r) AverageXOfY HighXOfY
