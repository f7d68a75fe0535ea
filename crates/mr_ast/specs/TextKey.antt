-- The hashes of a text's names and types.
use Rattle.std.specs.Prelude.{ℕ, List}
use Rattle.std.specs.Hash.DefaultHasher as sip
use Rattle.std.specs.declared.hash.DefaultHasher.{DefaultHasher}
use Rattle.sha2.specs.Sha256.{sha256}

-- the hasher that has taken the digest of a text
abbrev pub hasher_of_text : List ℕ → DefaultHasher
hasher_of_text text = sip.write sip.initial (sha256 text)
