-- Requests as the examples of document 01 give them, "call, sandbox, parameters", each with the answer that it is to get.
use Rattle.std.specs.Prelude.{ℕ, List, [], ◌∷◌, eqb}
use Rattle.basics.specs.Choice.{◌when◌else◌}
use Rattle.interface.specs.declared.request.Request.{Request}
use Rattle.interface.specs.Answers.{Answered}
use Rattle.interface.specs.Requests.{map_code}

-- a request with the answer that it is to get
pub record Line : Type 0 where
  pub request : Request
  pub gets : Answered

infix 80 ◌gives◌
abbrev pub ◌gives◌ : Request → Answered → Line
q gives a = record { request = q; gets = a }

abbrev pub ok : ℕ → Answered
ok v = record { number = 0; value = v }

abbrev pub refused : ℕ → Answered
refused n = record { number = n; value = 0 }

abbrev pub requests_of : List Line → List Request
requests_of [] = []
requests_of (l ∷ ls) = l.request ∷ requests_of ls

abbrev pub gets_of : List Line → List Answered
gets_of [] = []
gets_of (l ∷ ls) = l.gets ∷ gets_of ls

-- a call of sandbox 0 with its parameters, those not written 0
abbrev pub call₅ : ℕ → ℕ → ℕ → ℕ → ℕ → ℕ → Request
call₅ c p₁ p₂ p₃ p₄ p₅ = record { code = c; sandbox = 0; p1 = p₁; p2 = p₂; p3 = p₃; p4 = p₄; p5 = p₅ }

abbrev pub call₃ : ℕ → ℕ → ℕ → ℕ → Request
call₃ c p₁ p₂ p₃ = call₅ c p₁ p₂ p₃ 0 0

abbrev pub call₂ : ℕ → ℕ → ℕ → Request
call₂ c p₁ p₂ = call₅ c p₁ p₂ 0 0 0

abbrev pub call₁ : ℕ → ℕ → Request
call₁ c p₁ = call₅ c p₁ 0 0 0 0

abbrev pub call : ℕ → Request
call c = call₅ c 0 0 0 0 0

-- a map of n anonymous pages, with rights 3
abbrev pub map_at : ℕ → ℕ → Request
map_at first n = call₅ map_code first n 0 0 3

-- the request of another sandbox
abbrev pub in_sandbox : ℕ → Request → Request
in_sandbox s q = record { code = q.code; sandbox = s; p1 = q.p1; p2 = q.p2; p3 = q.p3; p4 = q.p4; p5 = q.p5 }

-- the request with another parameter k
abbrev pub with_parameter : ℕ → ℕ → Request → Request
with_parameter k x q = record {
  code = q.code;
  sandbox = q.sandbox;
  p1 = x when eqb k 1 else q.p1;
  p2 = x when eqb k 2 else q.p2;
  p3 = x when eqb k 3 else q.p3;
  p4 = x when eqb k 4 else q.p4;
  p5 = x when eqb k 5 else q.p5;
}
