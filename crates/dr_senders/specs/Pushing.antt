-- The threads that push.
use Rattle.std.specs.{Global.Global, Prelude.{ℕ, List}}
use Rattle.rtrb.specs.{Ring.sent, declared.{AnyItems.AnyItems, producer.Producer.Producer}}
use Rattle.dr_senders.specs.declared.pushing.Pushing.{Pushing, TheVariants.{Begun, Over}}

-- the messages that are pushed in all, where `left` tells what an app still gives
abbrev pub given_by : {A : Type 0} → (A → List (List ℕ)) → Pushing A → List (List ℕ)
given_by left (Begun thread) = left thread.promise.app.value
given_by left (Over producer) = sent producer

-- the producer of the ring that they go into
abbrev pub producer_of : {A : Type 0} → Pushing A → Producer (List ℕ) Global AnyItems
producer_of (Begun thread) = thread.promise.producer.value
producer_of (Over producer) = producer
