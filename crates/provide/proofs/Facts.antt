-- What the Provider answers, by the action of a request or acknowledgement: the facts that the exchange cites.
use Prim.Native.Nat.{ℕ, ◌+◌, ◌≤◌, ◌<◌}
use mathlib.Core.Path.{◌≡◌, refl}
use mathlib.Core.Bool.{true, false}
use mathlib.Core.List.{List}
use borrow.Author.Tests.{lt-ltb, le-ltb}
use Rattle.std.specs.Prelude.{Option, Ok}
use Rattle.laws.specs.When.{when}
use Rattle.asdu.specs.declared.Nos.{Nos}
use Rattle.asdu.specs.declared.Header.{Header}
use Rattle.frame.specs.declared.Frame.{Frame}
use Rattle.ft.specs.Admission.{on_asdu}
use Rattle.ft.specs.declared.Received.TheVariants as D
use Rattle.ft.specs.declared.Reaction.TheVariants as A
use Rattle.sections.specs.Sections.{section_count}
use Rattle.provide.specs.Record.{file_agrees, ended, counted}
use Rattle.provide.specs.Requests.{stepped, replying, on_sc, on_ack, is_ours, on_ours, on_request, provide}
use Rattle.provide.specs.declared.Provider.{Provider}
use Rattle.requests.specs.Answers.{sc_answer, after_section, ack_answer}
use Rattle.requests.specs.declared.Reply.TheVariants.{Nothing, FileReady, SectionReady, Section, FileClose}
use Rattle.requests.specs.declared.ProviderAnswer.TheVariants.{Complete}
use Rattle.asdu.specs.declared.Unspecified.{Unspecified}

module _ (p : Provider) where
  -- a request that is admitted is heard
  pub request_heard : (file : List ℕ) (h : Header) (unknown : Option Unspecified) (f : Frame) (beside : List ℕ)
      → file_agrees p file ≡ true → p.done ≡ false → on_asdu p.procedure h unknown (D.Frame f) beside ≡ Ok A.Requested
      → provide p file h unknown (D.Frame f) beside ≡ on_request p f
  unfolding provide when
  request_heard file h unknown f beside agrees goes admitted = simp (agrees, goes, admitted)

  pub ours_heard : (f : Frame) → is_ours p f ≡ true → on_request p f ≡ on_ours p f
  unfolding on_request when
  ours_heard f e = simp e

  -- one for another object address or file is counted and sends nothing
  pub others_counted : (f : Frame) → is_ours p f ≡ false → on_request p f ≡ replying (counted p) Nothing
  unfolding on_request when
  others_counted f e = simp e

  module _ (nos : Nos) (error : ℕ) where
    -- select file, request file, select section, request section
    pub selects_file : on_sc p nos (record { action = 1; error = error }) ≡ replying p FileReady
    unfolding on_sc sc_answer when
    selects_file = refl

    pub requests_file : on_sc p nos (record { action = 2; error = error }) ≡ replying p (SectionReady (record { value = 1 }))
    unfolding on_sc sc_answer when
    requests_file = refl

    pub selects_section : on_sc p nos (record { action = 5; error = error }) ≡ replying p (SectionReady nos)
    unfolding on_sc sc_answer when
    selects_section = refl

    pub requests_section : on_sc p nos (record { action = 6; error = error }) ≡ replying p (Section nos)
    unfolding on_sc sc_answer when
    requests_section = refl

    -- a section accepted: the next one, or the file's close
    pub next_section_lem : nos.value < section_count p.length → on_ack p nos (record { action = 3; error = error }) ≡ replying p (SectionReady (record { value = nos.value + 1 }))
    unfolding on_ack ack_answer after_section when
    next_section_lem h = simp (lt-ltb nos.value (section_count p.length) h)

    pub no_section : section_count p.length ≤ nos.value → on_ack p nos (record { action = 3; error = error }) ≡ replying p (FileClose nos)
    unfolding on_ack ack_answer after_section when
    no_section h = simp (le-ltb nos.value (section_count p.length) h)

    -- a section refused: it is sent again
    pub section_again : on_ack p nos (record { action = 4; error = error }) ≡ replying p (Section nos)
    unfolding on_ack ack_answer when
    section_again = refl

    -- the file accepted
    pub file_accepted : on_ack p nos (record { action = 1; error = error }) ≡ stepped (ended p) Complete
    unfolding on_ack ack_answer when
    file_accepted = refl
