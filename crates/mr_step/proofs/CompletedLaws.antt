-- What a completed step leaves.
use Rattle.mr_step.proofs.Common.{◌≡◌, ℕ, ◌+◌, ◌++◌, sym, ap, ◌∙◌, List, map, length, true, false, Some, slice_set, option_map, Footprint, Scene, Completed, State, Thread, started_threads, Notes, after_bare, foot_in, printed_by, Look, Own, thread_step, own_of, shared_in, turn_by, Progress, config_of, numbered, printed_of, standing_thread, state_of, state_unless, LeadsTo, Tells, bare_by, completed, foot_by, verdict_in}
use Rattle.mr_eval.specs.Tally.{Tally}
use Rattle.mr_plan.specs.Machine.{settle}
use Rattle.mr_plan.specs.Notes.{accesses_in, foot_of}
use Rattle.mr_frame.specs.declared.flow.Flow.{Flow}
use Rattle.mr_turn.specs.declared.deed.Deed.{Deed}
use Rattle.mr_turn.specs.Turning.{is_end, printed_lines}
use Rattle.mr_step.specs.Settling.{IsOn}
use Rattle.mr_frame.specs.declared.flow.Flow.TheVariants as flow
use Rattle.mr_frame.specs.declared.stack.Stack.{Stack as KeptStack}
use Rattle.mr_step.proofs.Numbered.{numbered_length}

-- the footprint that the notes tell
pub foot_is : (edition : ℕ) (s : Scene) (d : Deed) (n : Notes) → Tells s d n → foot_of edition s.memory n ≡ foot_by (completed edition s) d
foot_is edition s d n h = λ i. record {
  thread = (h.tally i).thread;
  accesses = accesses_in edition s.memory (h.tally i);
  allocated = (h.tally i).made;
  freed = (h.tally i).freed;
  touched = (h.tally i).touched;
  event = h.event i;
  ended = h.ended i;
  woken = h.woken i;
}

-- what is kept behind a completed step of thread t with this footprint, by what was kept before and this new stack
pub record IsBehind (edition : ℕ) (p : Progress) (t : ℕ) (s : Scene) (d : Deed) (stack : KeptStack) (f : Footprint) (q : Progress) : Type 0 where
  pub foot : f ≡ foot_by (completed edition s) d
  pub memory : q.scene.memory ≡ s.memory
  pub sync : q.sync ≡ p.sync
  pub gone : q.gone ≡ p.gone
  pub threads : numbered 0 q.threads.items
      ≡ slice_set (numbered 0 p.threads.items) t (standing_thread t (is_end d.flow) s.count stack) ++ started_threads (option_map (own_of (length p.threads.items)) d.started)
  pub output : map printed_of q.output.items ≡ map printed_of p.output.items ++ map (printed_by f.thread) (printed_lines (option_map (λ text. text.items) d.text))
  pub last : q.last ≡ Some f
  pub completed : q.completed ≡ p.completed + 1
  pub verdict : q.verdict ≡ verdict_in p.last f p.sync
  pub about : q.about ≡ p.about

module _ (p : Progress) (t : ℕ) (s : Scene) (d : Deed) (stack : KeptStack) (n : Notes) (tells : Tells s d n) where
  -- the threads behind the step
  abbrev pub threads_behind : List (Thread Own)
  threads_behind =
      slice_set (numbered 0 p.threads.items) t (standing_thread t (is_end d.flow) s.count stack) ++ started_threads (option_map (own_of (length p.threads.items)) d.started)

  abbrev pub state_behind : State Own
  state_behind = record { shared = shared_in s p.sync; threads = threads_behind }

  -- the turn completes a step
  pub completes : IsOn d.flow → bare_by (state_of p) t stack p.sync s d n ≡ Completed n state_behind
  completes = by_flow d.flow
    where
      -- the same with another flow
      threads_by : Flow → List (Thread Own)
      threads_by f =
          slice_set (numbered 0 p.threads.items) t (standing_thread t (is_end f) s.count stack) ++ started_threads (option_map (own_of (length p.threads.items)) d.started)

      count_is : n.tally.count ≡ s.count
      count_is = ap (λ (x : Tally). x.count) tells.tally

      begun_is : option_map (own_of (length (numbered 0 p.threads.items))) d.started ≡ option_map (own_of (length p.threads.items)) d.started
      begun_is = ap (λ k. option_map (own_of k) d.started) (numbered_length 0 p.threads.items)

      by_flow : (f : Flow) → IsOn f
          → settle (state_of p) t (turn_by f (own_of t stack) stack (option_map (own_of (length (numbered 0 p.threads.items))) d.started)) (shared_in s p.sync, n)
          ≡ Completed n (record { shared = shared_in s p.sync; threads = threads_by f })
      by_flow flow.Went on = λ i. Completed n (record {
        shared = shared_in s p.sync;
        threads = slice_set (numbered 0 p.threads.items) t (standing_thread t false (count_is i) stack) ++ started_threads (begun_is i);
      })
      by_flow flow.Ended on = λ i. Completed n (record {
        shared = shared_in s p.sync;
        threads = slice_set (numbered 0 p.threads.items) t (standing_thread t true (count_is i) stack) ++ started_threads (begun_is i);
      })
      by_flow flow.Exit on = absurd on
      by_flow flow.Abort on = absurd on

  -- where it leads, by what is kept behind it
  pub leads : (look : Look) → IsOn d.flow → (there : p.gone ≡ false) (q : Progress) (f : Footprint) → IsBehind look.program.edition p t s d stack f q
      → LeadsTo look (bare_by (state_of p) t stack p.sync s d n) (config_of p) (config_of q)
  leads look on there q f b = config_is ∙ sym (ap (after_bare (thread_step look) (config_of p)) (completes on))
    where
      told : f ≡ foot_in (thread_step look) n state_behind
      told = b.foot ∙ sym (foot_is look.program.edition s d n tells)

      printed_is : map (printed_by f.thread) (printed_lines (option_map (λ text. text.items) d.text)) ≡ map (printed_by n.tally.thread) n.printed
      printed_is = λ i. map (printed_by (told i).thread) (sym tells.printed i)

      state_is : state_unless q.gone (state_of q) ≡ Some state_behind
      state_is =
          ap (λ g. state_unless g (state_of q)) (b.gone ∙ there)
          ∙ λ i. Some (record {
            shared = record { memory = b.memory i; statuses = (b.sync i).statuses; holders = (b.sync i).holders };
            threads = b.threads i;
          })

      config_is : config_of q ≡ after_bare (thread_step look) (config_of p) (Completed n state_behind)
      config_is = λ i. record {
        state = state_is i;
        output = (b.output ∙ ap (λ lines. map printed_of p.output.items ++ lines) printed_is) i;
        last = (b.last ∙ ap Some told) i;
        completed = b.completed i;
        verdict = (b.verdict ∙ ap (λ x. verdict_in p.last x p.sync) told) i;
        about = b.about i;
      }
