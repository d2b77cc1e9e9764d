-- Along the words of the key: what two functions promise that know a word and not its register. Assumes nothing.
use Rattle.std.specs.Prelude.{◌≡◌, ℕ}
use Rattle.scramble.specs.Register.{register_after}
use Rattle.runs.specs.Words.{key_word}

-- where a and b are the first two words behind a register, o is the third
pub record Further (a b o : ℕ) : Type 0 where
  pub on : (r : ℕ) → a ≡ key_word r → b ≡ key_word (register_after 64 r) → o ≡ key_word (register_after 128 r)

-- where a is the first, o is the register after it
pub record AfterWord (a o : ℕ) : Type 0 where
  pub after : (r : ℕ) → a ≡ key_word r → o ≡ register_after 64 r
