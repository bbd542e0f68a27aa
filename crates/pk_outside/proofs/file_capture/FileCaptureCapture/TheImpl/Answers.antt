-- The clauses of the trait on bytes that this capture doesn't tell, which hold whatever the answer is.
use Rattle.std.proofs.Common.{Result, Ok, Err, IfOk, OnErr, refl, rules}
use Rattle.pk_outside.proofs.file_capture.FileCaptureCapture.TheImpl.Goals as goal

if_ok : {T E P : Type 0} → (result : Result T E) → P → IfOk result (λ _. P)
if_ok (Ok value) p = p
if_ok (Err error) p = tt

on_err : {T E P : Type 0} → (result : Result T E) → P → OnErr result P
on_err (Ok value) p = tt
on_err (Err error) p = p

pub begin-tells : goal.begin-tells
begin-tells g c = record {
  file = λ _. refl;
  asked = search rules;
  refused = search rules;
  faults = search rules;
  left = if_ok c.result refl;
  begun = search rules;
  not_missed = search rules;
  left_err = on_err c.result refl;
  not_begun = search rules;
  missed = search rules;
  begun_stay = search rules;
  missed_stay = search rules;
}

pub read-tells : goal.read-tells
read-tells g c = record {
  file = λ _. refl;
  asked = search rules;
  refused = search rules;
  begun = search rules;
  missed = search rules;
  within = search rules;
  moved = if_ok c.result refl;
  no_fault = search rules;
  left_err = on_err c.result refl;
  fault = search rules;
  faults_stay = search rules;
}
